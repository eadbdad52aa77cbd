-- The words of a line, one after the other.
-- Assumes nothing.
use mathlib.Core.Bool.{Bool, true, false, cond}
use mathlib.Core.List.{List, [], ◌∷◌}
use mathlib.Core.Path.{◌≡◌, refl, sym, ap, ◌∙◌}
use Prim.Native.Nat.{ℕ, suc, ◌+◌, ◌-◌, ◌≤◌, ◌<◌}
use native.Mathlib.Omega.{arith}
use lib.ListN.{take, drop}
use Rattle.text.specs.Words.{is_blank, is_letter, lead, word_start, word_end, word, behind, word_at}

-- one word further
pub word_more : (k i : ℕ) (line : List ℕ) → i < k → word_at (k - i) line ≡ word_at (k - (i + 1)) (behind line)
word_more k i line more =
    let left : k - i ≡ suc (k - (i + 1)) = omega (arith, more) in
    ap (λ (n : ℕ). word_at n line) left

-- at the word itself
pub word_there : (k i : ℕ) (line : List ℕ) → k ≤ i → word_at (k - i) line ≡ word line
word_there k i line there =
    let none : k - i ≡ 0 = omega (arith, there) in
    ap (λ (n : ℕ). word_at n line) none

-- behind the bytes at its start that pass a test, a text begins with none that does
none_more : (passes : ℕ → Bool) (l : List ℕ) → lead passes (drop (lead passes l) l) ≡ 0
none_more passes [] = refl
none_more passes (c ∷ cs) = either (passes c) refl (none_more passes cs)
  where
    either : (t : Bool) → passes c ≡ t → lead passes (drop (lead passes cs) cs) ≡ 0 → lead passes (drop (cond t (suc (lead passes cs)) 0) (c ∷ cs)) ≡ 0
    either true is none = none
    either false is none = ap (λ t. cond t (suc (lead passes cs)) 0) is

-- so the first word is that of what stands behind its blanks
pub word_is : (line : List ℕ) → take (word_end (drop (word_start line) line)) (drop (word_start line) line) ≡ word line
unfolding word word_start word_end
word_is line =
    let rest : List ℕ = drop (lead is_blank line) line in
    let left : (lead is_blank line + lead is_letter rest) - lead is_blank line ≡ 0 + lead is_letter rest = omega arith in
    ap (λ (n : ℕ). take (n + lead is_letter (drop n rest)) rest) (none_more is_blank line) ∙ sym (ap (λ (n : ℕ). take n rest) left)
