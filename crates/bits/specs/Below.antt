-- The numbers below n that pass a test: how many they are, whether all do, and the first of them.
-- Every search, sum and check of the rules paper over channels, levels or chips is one of these three.
use Rattle.std.specs.Prelude.{Bool, true, cond, ◌&&◌, ℕ, zero, suc, ◌+◌}

-- a test as a level or a digit: 1 where it holds, 0 where not
abbrev pub digit : Bool → ℕ
digit b = cond b 1 0

-- how many of the numbers below n pass
abbrev pub how_many : ℕ → (ℕ → Bool) → ℕ
how_many zero f = 0
how_many (suc n) f = how_many n f + digit (f n)

-- each of the numbers below n passes
abbrev pub every : ℕ → (ℕ → Bool) → Bool
every zero f = true
every (suc n) f = every n f && f n

-- the first of the numbers below n that passes; n itself if none does
abbrev pub first : ℕ → (ℕ → Bool) → ℕ
first zero f = 0
first (suc n) f = cond (f 0) 0 (suc (first n (λ i. f (suc i))))
