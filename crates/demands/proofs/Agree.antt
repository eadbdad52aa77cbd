-- Picture and table of one state agree, proved.
-- Assumes nothing.
use native.Mathlib.Omega.{arith}
use mathlib.Core.Bool.{and_comm, Bool, not, ◌&&◌}
use mathlib.Core.Path.{◌≡◌, refl, ap, sym, ◌∙◌}
use Prim.Native.Nat.{ℕ}
use Rattle.bits.specs.Below.{digit}
use Rattle.bits.specs.Byte.{bit}
use Rattle.search.specs.Candidate.{exists}
use Rattle.chip.specs.Status.{is_polled, candidate_of, gint_active, gint_pin}
use Rattle.chip.specs.declared.Chip.{Chip}
use Rattle.views.specs.Views.{table_of, picture_of, register_view, pin_view}
use Rattle.chain.specs.Fields.{chip_at}
use Rattle.chain.specs.Pins.{ei}
use Rattle.chain.specs.declared.Chain.{Chain}
use Rattle.demands.specs.Agree.{gint_reads_active, Agree, Agreement}
use Rattle.demands.specs.Rules.{StatusBits}
use Rattle.demands.proofs.Rules.{byte_bits, by_the_rules}

-- the pin by M3, read again by M3
pin_read : (mode : ℕ) (m3 active : Bool) → bit mode 3 ≡ m3 → gint_reads_active mode (gint_pin mode active) ≡ active
pin_read mode m3 active is = search arith

-- of any chain and any of its chips
pub one_state : (s : Chain) (chip : ℕ) → Agree (table_of chip s) (picture_of chip s)
one_state s chip =
    let c : Chip = chip_at s chip in
    let bits : StatusBits (table_of chip s).status c (ei s chip) = byte_bits c (ei s chip) in
    record {
      events = refl;
      s6_is_ei = ap digit bits.s6;
      gint_is_s7_and_not_s4 =
          pin_read c.mode (bit c.mode 3) (gint_active c) refl
          ∙ and_comm (not (is_polled c)) (exists (candidate_of c))
          ∙ ap (λ (b : Bool). b && not (is_polled c)) (sym bits.s7)
          ∙ ap (λ (b : Bool). bit (table_of chip s).status 7 && not b) (sym bits.s4);
    }

pub agreement : Agreement
unfolding register_view pin_view
agreement = search (arith, by_the_rules, one_state)
