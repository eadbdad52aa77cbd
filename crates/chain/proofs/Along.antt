-- The walk along a chain goes past its chips one by one.
-- Assumes nothing.
use mathlib.Core.Bool.{◌&&◌}
use mathlib.Core.Path.{◌≡◌, refl, ap, sym, ◌∙◌}
use Prim.Native.Nat.{ℕ, zero, suc}
use native.Mathlib.Numerals.{add-one}
use Rattle.bits.proofs.Below.{first_more}
use Rattle.chip.specs.Status.{gint_active}
use Rattle.response.specs.Walk.{along, past}
use Rattle.chain.specs.Fields.{chip_at}
use Rattle.chain.specs.Pins.{ei}
use Rattle.chain.specs.Walk.{walked_to}
use Rattle.chain.specs.declared.Chain.{Chain}

walked_past : (s : Chain) (n : ℕ) → past (chip_at s n) s.response (walked_to s n) ≡ walked_to s (suc n)
unfolding past walked_to ei
walked_past s n =
    rw (add-one n)
    (ap (λ (answering : ℕ). record { at = suc n; ei = ei s (suc n); answering = answering })
    (sym (first_more n (λ i. ei s i && gint_active (chip_at s i)))))

pub along_chain : (s : Chain) (n : ℕ) → along s.enable (chip_at s) s.response n ≡ walked_to s n
unfolding along walked_to ei
along_chain s zero = refl
along_chain s (suc n) = ap (past (chip_at s n) s.response) (along_chain s n) ∙ walked_past s n
