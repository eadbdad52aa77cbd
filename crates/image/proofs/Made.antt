-- What a closure makes that is called at each of the numbers below n in turn, where each call leaves it as it was.
-- Assumes nothing.
use mathlib.Core.List.{List, map}
use mathlib.Core.Path.{◌≡◌, subst, ◌∙◌}
use Prim.Native.Nat.{ℕ, zero, suc, ◌+◌, ◌<◌}
use native.Mathlib.Nat.{not-suc-le-zero, le_of_suc-le-suc}
use native.Mathlib.Omega.{arith}
use lib.ListN.{get_or}
use denote.Param.Members.{Mut, Called}
use Rattle.std.specs.Array.{IsFromFnResultFrom, IsFromFnResult}
use Rattle.std.specs.List.{range_with_len}
use Rattle.std.proofs.lemmas.List.FromFn.{fill_by_all}

-- from the i-th number on
each_from : {F B : Type 0} (g : Mut F (ℕ × Unit {0}) B) (f : F) (h : ℕ → B)
    → ((i : ℕ) (y : B) (q : F) → Called g f (i, tt) y q → (q ≡ f) × (y ≡ h i))
    → (ys : List B) (n i : ℕ) → IsFromFnResultFrom g f ys i n → (k j : ℕ) (d : B) → k < n → i + k ≡ j → get_or ys j d ≡ h j
each_from g f h same ys zero i made k j d l is = absurd (not-suc-le-zero l)
each_from g f h same ys (suc n) i made zero j d l is =
    let here : i ≡ j = omega (arith, is) in
    subst (λ m. get_or ys m d ≡ h m) here (made.2.1 d ∙ (same i made.1 made.0 made.3).1)
each_from g f h same ys (suc n) i made (suc k) j d l is =
    each_from g f h same ys n (i + 1) (subst (λ p. IsFromFnResultFrom g p ys (i + 1) n) (same i made.1 made.0 made.3).0 made.4) k j d (le_of_suc-le-suc l) (omega (arith, is))

pub made_map : {F B : Type 0} (g : Mut F (ℕ × Unit {0}) B) (f : F) (h : ℕ → B) (ys : List B) (n : ℕ) (d : B)
    → IsFromFnResult g f ys n → ((i : ℕ) (y : B) (q : F) → Called g f (i, tt) y q → (q ≡ f) × (y ≡ h i)) → ys ≡ map h (range_with_len 0 n)
made_map g f h ys n d made same = fill_by_all h ys n d made.long (λ k l. each_from g f h same ys n 0 made.each k k d l (omega arith))
