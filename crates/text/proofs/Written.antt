-- Texts written one behind the other.
-- Assumes nothing.
use mathlib.Core.Bool.{Bool, true, false, cond}
use mathlib.Core.List.{List, [], ◌∷◌, ◌++◌}
use mathlib.Core.Path.{◌≡◌, refl, sym, ap, ap₂, ◌∙◌}
use Prim.Native.Nat.{ℕ, zero, suc, ◌+◌, ◌-◌, ◌≤◌, ◌<◌, min}
use native.Mathlib.Numerals.{add-one}
use native.Mathlib.Omega.{arith}
use borrow.Author.Tests.{lt-ltb, le-ltb}
use lib.Dec.{ltb}
use lib.ListN.{length, get_or, set, take, drop, length-set, length-append, length-drop, drop_of_length-le}
use Rattle.std.proofs.Common.{take-append-drop}
use lib.Seq.{set-append_seam, append_snoc, drop-cons, length-take-le}
use Rattle.text.specs.Written.{stored, written, joined}

-- a text behind another is both, one after the other
pub written-append : (to : List ℕ × ℕ) (x y : List ℕ) → written to (x ++ y) ≡ written (written to x) y
unfolding written
written-append to [] y = refl
written-append to (b ∷ bs) y = written-append (stored to b) bs y

pub ruleset one_after_the_other = (written-append)

-- the same text onto the same buffer
pub again : {s t : List ℕ × ℕ} (x : List ℕ) → s ≡ t → written s x ≡ written t x
again x e = ap (λ to. written to x) e

-- the next byte of a text, where there is room for it
pub written_more : (to from : List ℕ) (at k : ℕ) → k < length from → at < length to → written (to, at) (drop k from) ≡ written (set to at (get_or from k 0), at + 1) (drop (k + 1) from)
unfolding written
written_more to from at k more room =
    ap (written (to, at)) (drop-cons from k 0 more)
    ∙ ap (λ s. written s (drop (suc k) from)) (stored_room to at (get_or from k 0) room)
    ∙ ap (λ (n : ℕ). written (set to at (get_or from k 0), at + 1) (drop n from)) (sym (add-one k))
  where
    stored_room : (to : List ℕ) (at b : ℕ) → at < length to → stored (to, at) b ≡ (set to at b, at + 1)
    stored_room to at b h = simp (lt-ltb _ _ h)

-- no text
pub written_none : (to : List ℕ × ℕ) → written to [] ≡ to
unfolding written
written_none to = refl

-- where there is no text left
pub written_end : (to : List ℕ × ℕ) (from : List ℕ) (k : ℕ) → length from ≤ k → written to (drop k from) ≡ to
unfolding written
written_end to from k h = ap (written to) (drop_of_length-le from h)

-- and where there is no room left
pub written_full : (to : List ℕ × ℕ) (from : List ℕ) → length to.0 ≤ to.1 → written to from ≡ to
unfolding written
written_full to [] h = refl
written_full to (b ∷ bs) h = ap (λ s. written s bs) (stored_full to b h) ∙ written_full to bs h
  where
    stored_full : (to : List ℕ × ℕ) (b : ℕ) → length to.0 ≤ to.1 → stored to b ≡ to
    stored_full to b h = simp (le-ltb _ _ h)

-- from a place on, as much of it as there is room for
pub put_there :
    (before rest from : List ℕ) (n : ℕ)
    → n ≡ min (length from) (length rest)
    → written (before ++ rest, length before) from ≡ (before ++ (take n from ++ drop n rest), length before + n)
unfolding written
put_there before rest [] n is =
    let none : n ≡ 0 = omega (arith, is) in
    let at : length before ≡ length before + n = omega (arith, is) in
    ap (λ (k : ℕ). (before ++ rest, k)) at ∙ ap (λ (k : ℕ). (before ++ (take k [] ++ drop k rest), length before + n)) (sym none)
put_there before [] (b ∷ bs) n is =
    let none : n ≡ 0 = omega (arith, is) in
    let at : length before ≡ length before + n = omega (arith, is) in
    written_full (before ++ [], length before) (b ∷ bs) (omega (arith, length-append before []))
    ∙ ap (λ (k : ℕ). (before ++ [], k)) at
    ∙ ap (λ (k : ℕ). (before ++ (take k (b ∷ bs) ++ drop k []), length before + n)) (sym none)
put_there before (x ∷ xs) (b ∷ bs) zero is = absurd (omega (arith, is))
put_there before (x ∷ xs) (b ∷ bs) (suc n) is =
    ap (λ t. written (cond t (set (before ++ x ∷ xs) (length before) b, length before + 1) (before ++ x ∷ xs, length before)) bs)
    (lt-ltb (length before) (length (before ++ x ∷ xs)) (omega (arith, length-append before (x ∷ xs))))
    ∙ ap₂ (λ l (k : ℕ). written (l, k) bs) (set-append_seam before x xs b ∙ sym (append_snoc before b xs)) (sym (length-append before (b ∷ [])))
    ∙ put_there (before ++ (b ∷ [])) xs bs n (omega (arith, is))
    ∙ ap₂ (λ l (k : ℕ). (l, k)) (append_snoc before b (take n bs ++ drop n xs)) (omega (arith, length-append before (b ∷ [])))

-- and of any buffer, at a place in it
pub put_at :
    (to from : List ℕ) (at n : ℕ)
    → at ≤ length to
    → n ≡ min (length from) (length to - at)
    → written (to, at) from ≡ (take at to ++ (take n from ++ drop n (drop at to)), at + n)
put_at to from at n h is =
    let there : length (take at to) ≡ at = length-take-le at to h in
    ap₂ (λ l (k : ℕ). written (l, k) from) (sym (take-append-drop at to)) (sym there)
    ∙ put_there (take at to) (drop at to) from n (omega (arith, is, length-drop at to))
    ∙ ap (λ (k : ℕ). (take at to ++ (take n from ++ drop n (drop at to)), k + n)) there

-- parts written one by one
abbrev pub written_all : List ℕ × ℕ → List (List ℕ) → List ℕ × ℕ
written_all to [] = to
written_all to (part ∷ parts) = written_all (written to part) parts

-- are written as one text
pub all-written : (to : List ℕ × ℕ) (parts : List (List ℕ)) → written_all to parts ≡ written to (joined parts)
unfolding written
all-written to [] = refl
all-written to (part ∷ parts) = all-written (written to part) parts ∙ sym (written-append to part (joined parts))

-- the buffer keeps its length
pub length-written : (to : List ℕ × ℕ) (from : List ℕ) → length (written to from).0 ≡ length to.0
unfolding written
length-written to [] = refl
length-written to (b ∷ bs) = length-written (stored to b) bs ∙ kept (ltb to.1 (length to.0))
  where
    kept : (t : Bool) → length (cond t (set to.0 to.1 b, to.1 + 1) to).0 ≡ length to.0
    kept true = length-set to.0 to.1 b
    kept false = refl
