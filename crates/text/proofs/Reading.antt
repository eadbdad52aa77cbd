-- A text read from a place on: what a byte more decides.
-- Assumes nothing.
use mathlib.Core.Bool.{Bool, true, false, cond, ◌&&◌}
use mathlib.Core.List.{List, [], ◌∷◌}
use mathlib.Core.Path.{◌≡◌, refl, sym, ap, ap₂, ◌∙◌}
use Prim.Native.Nat.{ℕ, suc, ◌+◌, ◌-◌, ◌*◌, ◌<◌}
use native.Mathlib.Numerals.{add-one}
use native.Mathlib.Omega.{arith}
use borrow.Author.Tests.{lt-leb}
use lib.Dec.{eqb}
use lib.ListN.{length, get_or, take, drop}
use lib.Seq.{drop-cons}
use Rattle.text.specs.Words.{lead, same, is_digit, decimal_from, decimal_in, two_digits, hex_in}
use Rattle.std.proofs.lemmas.Bool.Decides.{nat_tests}
use Rattle.std.specs.List.{prefix_len, take_while}
use Rattle.std.specs.Prelude.{Option, Some, None}
use Rattle.std.specs.Str.{bytes_eq}

-- what stands from a place on, where something does
pub split : (l : List ℕ) (k : ℕ) → k < length l → drop k l ≡ get_or l k 0 ∷ drop (k + 1) l
split l k h = drop-cons l k 0 h ∙ ap (λ (n : ℕ). get_or l k 0 ∷ drop n l) (sym (add-one k))

-- the start of a text whose bytes pass a test, and whether two texts are the same, in the library's words
pub lead_is : (passes : ℕ → Bool) (l : List ℕ) → lead passes l ≡ length (take_while passes l)
lead_is passes [] = refl
lead_is passes (c ∷ cs) = either (passes c) (lead_is passes cs)
  where
    either : (t : Bool) → lead passes cs ≡ length (take_while passes cs) → cond t (suc (lead passes cs)) 0 ≡ length (take (cond t (1 + prefix_len passes cs) 0) (c ∷ cs))
    either true is =
        let more : suc (prefix_len passes cs) ≡ 1 + prefix_len passes cs = omega arith in
        ap suc is ∙ ap (λ (n : ℕ). length (take n (c ∷ cs))) more
    either false is = refl

turned : (c d : ℕ) → eqb c d ≡ eqb d c
turned c d = grind (arith, nat_tests)

pub same_is : (a b : List ℕ) → same a b ≡ bytes_eq b a
same_is [] [] = refl
same_is [] (d ∷ ds) = refl
same_is (c ∷ cs) [] = refl
same_is (c ∷ cs) (d ∷ ds) = ap₂ (λ t u. t && u) (turned c d) (same_is cs ds)

-- a value above 255 stays above, whatever follows
either_none : (t : Bool) → cond {A = Option ℕ} t None None ≡ None
either_none true = refl
either_none false = refl

decimal_above : (value : ℕ) (l : List ℕ) → 255 < value → decimal_from value l ≡ None
decimal_above value [] h = ap (λ t. cond t (Some value) None) (lt-leb value 255 h)
decimal_above value (c ∷ cs) h =
    ap (λ n. cond (is_digit c) n None) (decimal_above (10 * value + (c - 48)) cs (omega arith)) ∙ either_none (is_digit c)

-- so a digit that brings it there makes it no number
pub decimal_over : (value : ℕ) (l : List ℕ) (k : ℕ) → k < length l → 255 < 10 * value + (get_or l k 0 - 48) → decimal_from value (drop k l) ≡ None
decimal_over value l k more h =
    ap (decimal_from value) (split l k more)
    ∙ ap (λ n. cond (is_digit (get_or l k 0)) n None) (decimal_above (10 * value + (get_or l k 0 - 48)) (drop (k + 1) l) h)
    ∙ either_none (is_digit (get_or l k 0))

pub decimal_none : (l : List ℕ) → length l ≡ 0 → decimal_in l ≡ None
unfolding decimal_in
decimal_none [] is = refl
decimal_none (c ∷ cs) is = absurd (omega (arith, is))

pub decimal_some : (l : List ℕ) → (length l ≡ 0 → ⊥) → decimal_in l ≡ decimal_from 0 l
unfolding decimal_in
decimal_some [] is = absurd (is refl)
decimal_some (c ∷ cs) is = refl

-- hex: by the word's length
pub hex_one : (l : List ℕ) → length l ≡ 1 → hex_in l ≡ two_digits 48 (get_or l 0 0)
unfolding hex_in
hex_one [] is = absurd (omega (arith, is))
hex_one (c ∷ []) is = refl
hex_one (c ∷ d ∷ more) is = absurd (omega (arith, is))

pub hex_two : (l : List ℕ) → length l ≡ 2 → hex_in l ≡ two_digits (get_or l 0 0) (get_or l 1 0)
unfolding hex_in
hex_two [] is = absurd (omega (arith, is))
hex_two (c ∷ []) is = absurd (omega (arith, is))
hex_two (c ∷ d ∷ []) is = refl
hex_two (c ∷ d ∷ e ∷ more) is = absurd (omega (arith, is))

pub hex_other : (l : List ℕ) → (length l ≡ 1 → ⊥) → (length l ≡ 2 → ⊥) → hex_in l ≡ None
unfolding hex_in
hex_other [] one two = refl
hex_other (c ∷ []) one two = absurd (one refl)
hex_other (c ∷ d ∷ []) one two = absurd (two refl)
hex_other (c ∷ d ∷ e ∷ more) one two = refl
