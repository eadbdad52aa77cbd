-- `steps::kinds::in_capitals` meets its contract. There is room for eight letters, so what is looked at is what was written.
use mathlib.Core.List.{List, [], ◌∷◌}
use mathlib.Core.Path.{◌≡◌, sym, ap, ◌∙◌}
use Prim.Native.Nat.{ℕ, ◌≤◌}
use native.Mathlib.Omega.{arith}
use lib.ListN.{length, take, length-take}
use lib.Seq.{length-take-le}
use Rattle.text.proofs.Fits.{written_out}
use Rattle.text.proofs.InOtherForm.{length_cast}
use Rattle.text.proofs.Written.{length-written}
use Rattle.text.specs.Cast.{cast}
use Rattle.text.specs.Written.{written}
use Rattle.text.specs.declared.Way.TheVariants.{Small}
use Rattle.steps.specs.Kinds.{in_capitals}
use Rattle.steps.proofs.kinds.in_capitals.Goals as goal

abbrev room : List ℕ
room = 0 ∷ 0 ∷ 0 ∷ 0 ∷ 0 ∷ 0 ∷ 0 ∷ 0 ∷ []

there : (word from after : List ℕ) (n : ℕ) → from ≡ take 8 word → ◌≡◌ {A = List ℕ × ℕ} (after, n) (written (room, 0) (cast Small from)) → (n ≤ length after) × (take n after ≡ cast Small (take 8 word))
there word from after n is told =
    let short : length (cast Small from) ≤ 8 = omega (arith, length_cast Small from, ap length is, length-take 8 word) in
    let out = written_out room (cast Small from) after n short told in
    (omega (arith, out.0, short, ap (λ to. length to.0) told ∙ length-written (room, 0) (cast Small from)), out.1 ∙ ap (cast Small) is)

pub slice_bounds-small-end : goal.slice_bounds-small-end
slice_bounds-small-end c = (there _ _ _ _ c.first.ensures c.put_cast-length.ensures).0

pub slice_bounds-is_name-end : goal.slice_bounds-is_name-end
slice_bounds-is_name-end c = sym (length-take-le _ _ (there _ _ _ _ c.first.ensures c.put_cast-length.ensures).0)

pub returns : goal.returns
unfolding in_capitals
returns c = let shown = (there _ _ _ _ c.first.ensures c.put_cast-length.ensures).1 in simp (c.is_name.ensures, c.is_name-2.ensures, shown)
