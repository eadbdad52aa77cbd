-- The lines of the chips, one chip after the other.
-- Assumes nothing.
use mathlib.Core.List.{List}
use mathlib.Core.Path.{◌≡◌, sym, ap, ◌∙◌}
use Prim.Native.Nat.{ℕ, suc, ◌+◌, ◌-◌, ◌≤◌, ◌<◌}
use native.Mathlib.Omega.{arith}
use Rattle.chain.specs.declared.Chain.{Chain}
use Rattle.page.specs.Page.{chip_lines, chips_from}
use Rattle.text.specs.Written.{written}
use Rattle.text.proofs.Written.{again, written-append, written_none}

-- a chip's lines written, those of the chips after it are left
pub chips_more :
    (to next : List ℕ × ℕ) (s : Chain) (count i : ℕ)
    → i < count
    → next ≡ written to (chip_lines i s)
    → written to (chips_from (count - i) i s) ≡ written next (chips_from (count - (i + 1)) (i + 1) s)
chips_more to next s count i more is =
    let left : count - i ≡ suc (count - (i + 1)) = omega (arith, more) in
    ap (λ (n : ℕ). written to (chips_from n i s)) left
    ∙ written-append to (chip_lines i s) (chips_from (count - (i + 1)) (i + 1) s)
    ∙ sym (again (chips_from (count - (i + 1)) (i + 1) s) is)

-- at the count none is left
pub chips_end : (to : List ℕ × ℕ) (s : Chain) (count i : ℕ) → count ≤ i → written to (chips_from (count - i) i s) ≡ to
chips_end to s count i end =
    let none : count - i ≡ 0 = omega (arith, end) in
    ap (λ (n : ℕ). written to (chips_from n i s)) none ∙ written_none to
