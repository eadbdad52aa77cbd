-- A whole chain stays whole where its chips stay, or where one of them is replaced by a whole one.
-- Assumes nothing.
use mathlib.Core.Bool.{Bool, true, false}
use mathlib.Core.List.{List}
use mathlib.Core.Path.{◌≡◌, refl, ap, sym, subst, ◌∙◌}
use Prim.Native.Nat.{ℕ, ◌<◌}
use lib.Dec.{eqb}
use lib.ListN.{get_or, set, length, length-set}
use lib.Seq.{get_or-set_same, get_or-set_other}
use borrow.Author.Tests.{eqb-true, eqb-false}
use Rattle.chip.specs.Fields.{zero_chip}
use Rattle.chip.specs.declared.Chip.{Chip}
use Rattle.chain.specs.Fields.{chip_at, with_chips, with_chip}
use Rattle.chain.specs.declared.Chain.{Chain}
use Rattle.image.specs.OneToOne.{WholeChip, Whole}

-- whose chips are those of a whole chain is whole
pub same_chips : (s t : Chain) → t.chips ≡ s.chips → Whole s → Whole t
same_chips s t is whole =
    record {
      eight_chips = ap length is ∙ whole.eight_chips;
      whole_chips = λ k h. subst (λ (cs : List Chip). WholeChip (get_or cs k zero_chip)) (sym is) (whole.whole_chips k h);
    }

-- a chip that is replaced; past the eight nothing is
pub whole_with : (i : ℕ) (c : Chip) (s : Chain) → (i < 8 → WholeChip c) → Whole s → Whole (with_chip i c s)
unfolding with_chip with_chips
whole_with i c s new whole =
    record { eight_chips = length-set s.chips i c ∙ whole.eight_chips; whole_chips = λ k h. at (eqb k i) k refl h }
  where
    at : (is : Bool) (k : ℕ) → eqb k i ≡ is → k < 8 → WholeChip (chip_at (with_chip i c s) k)
    at true k is h =
        let same : k ≡ i = eqb-true k i is in
        let below : i < 8 = subst (λ n. n < 8) same h in
        subst (λ n. WholeChip (get_or (set s.chips i c) n zero_chip)) (sym same)
        (subst WholeChip (sym (get_or-set_same s.chips i c zero_chip (subst (λ n. i < n) (sym whole.eight_chips) below))) (new below))
    at false k is h = subst WholeChip (sym (get_or-set_other s.chips i k c zero_chip (eqb-false k i is))) (whole.whole_chips k h)
