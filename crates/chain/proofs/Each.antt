-- A search through the numbers below n asks each of them.
-- Assumes nothing.
use Rattle.std.specs.List.{list_all, range_with_len}
use mathlib.Core.Bool.{Bool, ◌&&◌, and_assoc, and-true}
use mathlib.Core.Path.{◌≡◌, refl, ap, sym, ◌∙◌}
use Prim.Native.Nat.{ℕ, zero, suc, ◌+◌}
use native.Mathlib.Numerals.{add-one}
use Rattle.bits.specs.Below.{every}

-- the first of them, and the rest
every_first : (n : ℕ) (f : ℕ → Bool) → every (suc n) f ≡ f 0 && every n (λ k. f (k + 1))
every_first zero f = sym (and-true (f 0))
every_first (suc n) f =
    ap (λ (b : Bool). b && f (suc n)) (every_first n f)
    ∙ and_assoc (f 0) (every n (λ k. f (k + 1))) (f (suc n))
    ∙ ap (λ (k : ℕ). f 0 && (every n (λ k. f (k + 1)) && f k)) (sym (add-one n))

all_later : (f : ℕ → Bool) (a n : ℕ) → list_all f (range_with_len (a + 1) n) ≡ list_all (λ k. f (k + 1)) (range_with_len a n)
all_later f a zero = refl
all_later f a (suc n) = ap (λ (b : Bool). f (a + 1) && b) (all_later f (a + 1) n)

pub all_below : (n : ℕ) (f : ℕ → Bool) → list_all f (range_with_len 0 n) ≡ every n f
all_below zero f = refl
all_below (suc n) f = ap (λ (b : Bool). f 0 && b) (all_later f 0 n ∙ all_below n (λ k. f (k + 1))) ∙ sym (every_first n f)
