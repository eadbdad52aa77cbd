-- What it takes to be the one outcome of a promise: laws for a field that the search does not find by itself.
-- Assumes nothing.
use mathlib.Core.List.{List}
use mathlib.Core.Path.{◌≡◌, refl, ap, sym, ◌∙◌}
use Prim.Native.Nat.{ℕ}
use Rattle.outcomes.specs.Outcomes.{Only}

-- a call that takes everything, and whose promise only the given outcome satisfies
pub only : {A : Type 0} {promise : A → Type 0} (given : A) → promise given → ((x : A) → promise x → x ≡ given) → Only (Unit {0}) promise given
only given holds is = record { taken = tt; satisfied = holds; no_two = λ x y px py. is x px ∙ sym (is y py) }

-- the promise to be what a definition gives
pub the_one : {A : Type 0} (given : A) → Only (Unit {0}) (λ x. x ≡ given) given
the_one given = only given refl (λ x is. is)

-- the promise to leave a buffer and a place as a definition writes them
pub the_written : (w : List ℕ × ℕ) → Only (Unit {0}) (λ (o : ℕ × List ℕ). ◌≡◌ {A = List ℕ × ℕ} (o.1, o.0) w) (w.1, w.0)
the_written w = only _ refl (λ o is. ap (λ (p : List ℕ × ℕ). (p.1, p.0)) is)
