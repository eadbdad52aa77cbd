-- Lists of bytes: written over, and zero.
-- Assumes nothing.
use mathlib.Core.Bool.{true, ◌&&◌, and_assoc, and-true}
use mathlib.Core.List.{List, [], ◌∷◌, ◌++◌, append_assoc}
use mathlib.Core.Path.{◌≡◌, refl, sym, ap, ap₂, ◌∙◌}
use Prim.Native.Nat.{ℕ, ◌+◌, ◌-◌, ◌*◌, ◌≤◌}
use native.Mathlib.Nat.{le_refl}
use lib.Dec.{eqb}
use lib.ListN.{length, take, drop, replicate}
use lib.Seq.{paste, length-paste, take-length, take_at, drop-drop, drop-append-add}
use borrow.Rule.Slice.PartMut.{put_mid, Post-is}
use borrow.Author.Tests.{eqb-true}
use Rattle.bits.proofs.Below.{both_left, both_right}
use Rattle.image.specs.Layout.{over}
use Rattle.std.specs.List.{list_all, range_with_len}
use Rattle.std.proofs.lemmas.List.Recursion.{same_from_clauses}
use Rattle.image.specs.Reading.{is_zero, record_form, records_form}

-- a copy of all of a list is that list written over
pub paste_over : (old : List ℕ) (at : ℕ) (new : List ℕ) → paste old at new (length new) ≡ over old at new
paste_over old at new = ap (λ (vs : List ℕ). take at old ++ vs ++ drop (at + length new) old) (take-length new)

-- bytes written behind those already written
pub over_next : (p l new : List ℕ) (at next : ℕ) → length p ≡ at → at + length new ≡ next → over (p ++ drop at l) at new ≡ (p ++ new) ++ drop next l
over_next p l new at next is ends =
    ap₂ (λ before behind. before ++ new ++ behind) (take_at p (drop at l) at is)
    (ap (λ (n : ℕ). drop (n + length new) (p ++ drop at l)) (sym is)
    ∙ drop-append-add p (drop at l) (length new)
    ∙ drop-drop (length new) at l
    ∙ ap (λ (n : ℕ). drop n l) ends)

-- a part that was lent, back with what was written into it
pub part_over : (xs ys : List ℕ) (a e : ℕ) → a ≤ e → a + length ys ≡ e → put_mid a (e - a) xs ys ≡ over xs a ys
part_over xs ys a e h ends =
    ap (λ rest. take a xs ++ (ys ++ rest)) (Post-is a e xs h ∙ ap (λ (n : ℕ). drop n xs) (sym ends))
    ∙ sym (append_assoc (take a xs) ys (drop (a + length ys) xs))

pub length_over : (old : List ℕ) (at : ℕ) (new : List ℕ) → at + length new ≤ length old → length (over old at new) ≡ length old
length_over old at new h = ap length (sym (paste_over old at new)) ∙ length-paste old at new (length new) h (le_refl (length new))

-- there is one list of zeros of each length
pub zero_is : (b : List ℕ) → is_zero b ≡ true → b ≡ replicate (length b) 0
zero_is [] h = refl
zero_is (x ∷ xs) h =
    ap₂ (λ z zs. z ∷ zs) (eqb-true x 0 (both_left (eqb x 0) (is_zero xs) h)) (zero_is xs (both_right (eqb x 0) (is_zero xs) h))

-- `is_zero` and `records_form` in the words in which std says what `all` gives
pub zero_all : (b : List ℕ) → is_zero b ≡ list_all (λ x. eqb x 0) b
zero_all = same_from_clauses is_zero (list_all (λ x. eqb x 0)) (λ x rest. eqb x 0 && rest) refl (λ _ _. refl) (λ _ _. refl)

pub records_all : (b : List ℕ) → records_form b ≡ list_all (λ i. record_form (drop (16 + 64 * i) b)) (range_with_len 0 8)
unfolding records_form
records_all b = simp (and_assoc, and-true)
