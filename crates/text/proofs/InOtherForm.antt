-- A text in another form, byte after byte.
-- Assumes nothing.
use mathlib.Core.List.{List, [], ◌∷◌}
use mathlib.Core.Path.{◌≡◌, refl, ap, ◌∙◌}
use Prim.Native.Nat.{ℕ, suc, ◌+◌, ◌≤◌, ◌<◌}
use lib.ListN.{length, get_or, drop, drop_of_length-le}
use Rattle.text.specs.Cast.{cast_byte, cast}
use Rattle.text.specs.Written.{written}
use Rattle.text.specs.declared.Way.{Way}
use Rattle.text.proofs.Reading.{split}
use Rattle.text.proofs.Written.{written-append, written_none}

-- the next byte of it, and the rest
pub cast_more :
    (to : List ℕ × ℕ) (how : Way) (from : List ℕ) (k : ℕ)
    → k < length from
    → written to (cast how (drop k from)) ≡ written (written to (cast_byte how (get_or from k 0) ∷ [])) (cast how (drop (k + 1) from))
cast_more to how from k more =
    ap (λ l. written to (cast how l)) (split from k more) ∙ written-append to (cast_byte how (get_or from k 0) ∷ []) (cast how (drop (k + 1) from))

-- where there is nothing left of it
pub cast_end : (to : List ℕ × ℕ) (how : Way) (from : List ℕ) (k : ℕ) → length from ≤ k → written to (cast how (drop k from)) ≡ to
cast_end to how from k none = ap (λ l. written to (cast how l)) (drop_of_length-le from none) ∙ written_none to

-- it is as long as it was
pub length_cast : (how : Way) (l : List ℕ) → length (cast how l) ≡ length l
length_cast how [] = refl
length_cast how (c ∷ cs) = ap suc (length_cast how cs)
