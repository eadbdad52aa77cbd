-- Laws of the numbers below n that pass a test: what `every`, `how_many` and `first` say of each number.
-- Assumes nothing.
use mathlib.Core.Path.{◌≡◌, refl, ap, ap₂, sym, subst, ◌∙◌}
use mathlib.Core.Logic.{⊎_elim}
use mathlib.Core.Bool.{Bool, true, false, cond, not, ◌&&◌, ◌||◌, beq, false≢true}
use Prim.Native.Nat.{ℕ, zero, suc, ◌+◌, ◌≤◌, ◌<◌, zero-le, suc-le-suc}
use native.Mathlib.Nat.{le_of_suc-le-suc, not-suc-le-zero, eq-or-lt_of_le, zero-lt-suc, le_refl, le_step}
use lib.Dec.{T, ltb, lit<, leb-zero, leb-suc-zero, leb-suc-suc}
use borrow.Author.Tests.{lt-ltb}
use Rattle.bits.specs.Below.{digit, how_many, every, first}

-- a digit is 0 or 1
pub digit_lt : (b : Bool) → digit b < 2
digit_lt true = lit< tt
digit_lt false = lit< tt

-- what holds of both that a test picks from holds of the one that it picks
pub either : {A : Type 0} (P : A → Type 0) (b : Bool) (x y : A) → (b ≡ true → P x) → (b ≡ false → P y) → P (cond b x y)
either P true x y holds fails = holds refl
either P false x y holds fails = fails refl

-- the two parts of an `and`
pub both_left : (a b : Bool) → a && b ≡ true → a ≡ true
both_left true b e = refl
both_left false b e = e

pub both_right : (a b : Bool) → a && b ≡ true → b ≡ true
both_right true b e = e
both_right false b e = absurd (false≢true e)

pub both_not : (a b : Bool) → b ≡ false → a && b ≡ false
both_not true b e = e
both_not false b e = refl

-- all pass exactly if each does
pub every_each : (n : ℕ) (f : ℕ → Bool) → every n f ≡ true → (k : ℕ) → k < n → f k ≡ true
every_each zero f e k h = absurd (not-suc-le-zero h)
every_each (suc n) f e k h =
    ⊎_elim (λ m. ap f m ∙ both_right (every n f) (f n) e)
    (λ l. every_each n f (both_left (every n f) (f n) e) k l)
    (eq-or-lt_of_le (le_of_suc-le-suc h))

is_true : (b : Bool) → T b → b ≡ true
is_true true t = refl
is_true false t = absurd t

-- a test that antt computes over all the numbers below n holds at each of them
pub each : (n : ℕ) (f : ℕ → Bool) → T (every n f) → (k : ℕ) → k < n → T (f k)
each n f t k h = subst T (sym (every_each n f (is_true (every n f) t) k h)) tt

pub every-all : (n : ℕ) (f : ℕ → Bool) → ((k : ℕ) → k < n → f k ≡ true) → every n f ≡ true
every-all zero f e = refl
every-all (suc n) f e = rw (every-all n f (λ k h. e k (le_step h))) (e n (le_refl (suc n)))

pub every-not : (n : ℕ) (f : ℕ → Bool) (k : ℕ) → k < n → f k ≡ false → every n f ≡ false
every-not zero f k h e = absurd (not-suc-le-zero h)
every-not (suc n) f k h e =
    ⊎_elim (λ m. both_not (every n f) (f n) (ap f (sym m) ∙ e))
    (λ l. ap (λ (b : Bool). b && f n) (every-not n f k l e))
    (eq-or-lt_of_le (le_of_suc-le-suc h))

same : (a b : Bool) → T (beq a b) → a ≡ b
same true true t = refl
same true false t = absurd t
same false true t = absurd t
same false false t = refl

-- a rule of one number, computed at each of the numbers below n
pub tested : (n : ℕ) (f g : ℕ → Bool) → T (every n (λ x. beq (f x) (g x))) → (x : ℕ) → x < n → f x ≡ g x
tested n f g t x h = same (f x) (g x) (each n (λ x. beq (f x) (g x)) t x h)

-- and of two, the second below m
pub tested₂ : (n m : ℕ) (f g : ℕ → ℕ → Bool) → T (every n (λ x. every m (λ y. beq (f x y) (g x y))))
    → (x y : ℕ) → x < n → y < m → f x y ≡ g x y
tested₂ n m f g t x y hx hy = tested m (f x) (g x) (each n (λ x. every m (λ y. beq (f x y) (g x y))) t x hx) y hy

-- two tests that agree below n count the same
pub how_many-same : (n : ℕ) (f g : ℕ → Bool) → ((k : ℕ) → k < n → f k ≡ g k) → how_many n f ≡ how_many n g
how_many-same zero f g e = refl
how_many-same (suc n) f g e =
    ap₂ (λ (x : ℕ) (b : Bool). x + digit b) (how_many-same n f g (λ k h. e k (le_step h))) (e n (le_refl (suc n)))

-- and find the same first number
pub first-same : (n : ℕ) (f g : ℕ → Bool) → ((k : ℕ) → k < n → f k ≡ g k) → first n f ≡ first n g
first-same zero f g e = refl
first-same (suc n) f g e =
    rw (e 0 (zero-lt-suc n))
    (ap (λ (x : ℕ). cond (g 0) 0 (suc x)) (first-same n (λ k. f (suc k)) (λ k. g (suc k)) (λ k h. e (suc k) (suc-le-suc h))))

-- the first number that passes, where it and those before it are known
pub first_is : (n : ℕ) (f : ℕ → Bool) (i : ℕ) → i < n → ((k : ℕ) → k < i → f k ≡ false) → f i ≡ true → first n f ≡ i
first_is zero f i h none here = absurd (not-suc-le-zero h)
first_is (suc n) f zero h none here = rw here
first_is (suc n) f (suc i) h none here =
    rw (none 0 (zero-lt-suc i))
    (ap suc (first_is n (λ k. f (suc k)) i (le_of_suc-le-suc h) (λ k l. none (suc k) (suc-le-suc l)) here))

-- none passes
pub first_none : (n : ℕ) (f : ℕ → Bool) → ((k : ℕ) → k < n → f k ≡ false) → first n f ≡ n
first_none zero f none = refl
first_none (suc n) f none =
    rw (none 0 (zero-lt-suc n)) (ap suc (first_none n (λ k. f (suc k)) (λ k l. none (suc k) (suc-le-suc l))))

-- the first that passes does pass
pub first_passes : (n : ℕ) (f : ℕ → Bool) → first n f < n → f (first n f) ≡ true
first_passes zero f h = absurd (not-suc-le-zero h)
first_passes (suc n) f h = by (f 0) refl (first_passes n (λ i. f (suc i))) h
  where
    rest : ℕ
    rest = first n (λ i. f (suc i))

    by : (here : Bool) → f 0 ≡ here → (rest < n → f (suc rest) ≡ true) → cond here 0 (suc rest) < suc n → f (cond here 0 (suc rest)) ≡ true
    by true is later h = is
    by false is later h = later (le_of_suc-le-suc h)

-- and stands at or before each that passes
pub first-before : (n : ℕ) (f : ℕ → Bool) (k : ℕ) → k < n → f k ≡ true → first n f ≤ k
first-before zero f k h is = absurd (not-suc-le-zero h)
first-before (suc n) f zero h is = rw is zero-le
first-before (suc n) f (suc k) h is = by (f 0) (first-before n (λ i. f (suc i)) k (le_of_suc-le-suc h) is)
  where
    by : (here : Bool) → first n (λ i. f (suc i)) ≤ k → cond here 0 (suc (first n (λ i. f (suc i)))) ≤ suc k
    by true l = zero-le
    by false l = suc-le-suc l

-- one number more: the first below n if there is one, else n itself if it passes
pub first_more : (n : ℕ) (f : ℕ → Bool) → first (suc n) f ≡ cond (ltb (first n f) n) (first n f) (cond (f n) n (suc n))
first_more zero f = refl
first_more (suc n) f = by (f 0) (first_more n (λ i. f (suc i)))
  where
    rest : ℕ
    rest = first n (λ i. f (suc i))

    pushed : (found next : Bool) → suc (cond found rest (cond next n (suc n))) ≡ cond found (suc rest) (cond next (suc n) (suc (suc n)))
    pushed true next = refl
    pushed false true = refl
    pushed false false = refl

    by : (here : Bool) → first (suc n) (λ i. f (suc i)) ≡ cond (ltb rest n) rest (cond (f (suc n)) n (suc n))
        → cond here 0 (suc (first (suc n) (λ i. f (suc i)))) ≡ cond (ltb (cond here 0 (suc rest)) (suc n)) (cond here 0 (suc rest)) (cond (f (suc n)) (suc n) (suc (suc n)))
    by true later = ap (λ (found : Bool). cond found 0 (cond (f (suc n)) (suc n) (suc (suc n)))) (sym (lt-ltb 0 (suc n) (zero-lt-suc n)))
    by false later =
        ap suc later
        ∙ pushed (ltb rest n) (f (suc n))
        ∙ ap (λ (found : Bool). cond found (suc rest) (cond (f (suc n)) (suc n) (suc (suc n)))) (sym (leb-suc-suc (suc rest) n))

-- Two tests in one search: the first that passes the one stands ahead of the first that passes the other exactly if the first that passes
-- either exists and does not pass the other
pub first_ahead : (n : ℕ) (f g : ℕ → Bool)
    → ltb (first n f) (first n g) ≡ ltb (first n (λ i. f i || g i)) n && not (g (first n (λ i. f i || g i)))
first_ahead zero f g = refl
first_ahead (suc n) f g = by (f 0) (g 0) _ _ _ refl (first_ahead n (λ i. f (suc i)) (λ i. g (suc i)))
  where
    by : (a b : Bool) (i j k : ℕ) → g 0 ≡ b → ltb i j ≡ ltb k n && not (g (suc k))
        → ltb (cond a 0 (suc i)) (cond b 0 (suc j)) ≡ ltb (cond (a || b) 0 (suc k)) (suc n) && not (g (cond (a || b) 0 (suc k)))
    by true true i j k is later = simp (is, leb-suc-suc 0 n, leb-zero n)
    by true false i j k is later = simp (is, leb-suc-suc 0 j, leb-zero j, leb-suc-suc 0 n, leb-zero n)
    by false true i j k is later = simp (is, leb-suc-zero (suc i), leb-suc-suc 0 n, leb-zero n)
    by false false i j k is later = rw (leb-suc-suc (suc i) j) (rw (leb-suc-suc (suc k) n) later)

-- and then it is the first that passes either
pub first_either : (n : ℕ) (f g : ℕ → Bool) → ltb (first n f) (first n g) ≡ true → first n f ≡ first n (λ i. f i || g i)
first_either zero f g ahead = refl
first_either (suc n) f g ahead = by (f 0) (g 0) _ _ _ (first_either n (λ i. f (suc i)) (λ i. g (suc i))) ahead
  where
    by : (a b : Bool) (i j k : ℕ) → (ltb i j ≡ true → i ≡ k) → ltb (cond a 0 (suc i)) (cond b 0 (suc j)) ≡ true
        → cond a 0 (suc i) ≡ cond (a || b) 0 (suc k)
    by true b i j k later ahead = refl
    by false true i j k later ahead = absurd (false≢true (sym (leb-suc-zero (suc i)) ∙ ahead))
    by false false i j k later ahead = ap suc (later (sym (leb-suc-suc (suc i) j) ∙ ahead))
