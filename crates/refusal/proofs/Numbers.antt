-- Laws of the table of numbers, and of a list of tests.
-- Assumes nothing.
use Rattle.std.specs.Prelude.{Ok, Err}
use mathlib.Core.Bool.{Bool, true, false, false≢true}
use mathlib.Core.List.{List, [], ◌∷◌, ◌++◌}
use mathlib.Core.Path.{◌≡◌, refl, ap, sym}
use native.Mathlib.Omega.{arith}
use Rattle.refusal.specs.Numbers.{refusal_number, is_accepted, first_of_list, Verdict}
use Rattle.refusal.specs.declared.Refusal.{Refusal}
use Rattle.refusal.specs.declared.Refusal.TheVariants.{NotSound, NoSuchChip, NoSuchChannel, NoSuchLevel, PulseUnderWay, IackThereAlready, UndefinedCommand, NoDestination, PastItsCount, BrokenEvent, ShortResults, UnknownKind}

-- no refusal has the number 0
pub not_zero : (why : Refusal) → refusal_number why ≡ 0 → ⊥
not_zero NotSound e = omega arith
not_zero NoSuchChip e = omega arith
not_zero NoSuchChannel e = omega arith
not_zero NoSuchLevel e = omega arith
not_zero PulseUnderWay e = omega arith
not_zero IackThereAlready e = omega arith
not_zero UndefinedCommand e = omega arith
not_zero NoDestination e = omega arith
not_zero PastItsCount e = omega arith
not_zero BrokenEvent e = omega arith
not_zero ShortResults e = omega arith
not_zero UnknownKind e = omega arith

-- no test both holds and fails
pub not_both : {A : Type 0} → false ≡ true → A
not_both e = absurd (false≢true e)

-- tests that accept have each been passed
pub passed_first : (b : Bool) (why : Refusal) (l : List (Bool × Refusal)) → first_of_list ((b, why) ∷ l) ≡ Ok tt → b ≡ false
passed_first true why l e = not_both (ap is_accepted e)
passed_first false why l e = refl

pub passed_rest : (b : Bool) (why : Refusal) (l : List (Bool × Refusal)) → first_of_list ((b, why) ∷ l) ≡ Ok tt → first_of_list l ≡ Ok tt
passed_rest true why l e = not_both (ap is_accepted e)
passed_rest false why l e = e

-- accepted is one verdict
pub accepted_is : (v : Verdict) → is_accepted v ≡ true → v ≡ Ok tt
accepted_is (Ok tt) e = refl
accepted_is (Err why) e = not_both e

-- tests in two parts: where the first part refuses, that is the verdict; where it accepts, the second part decides
pub refused_already : (l₁ l₂ : List (Bool × Refusal)) → is_accepted (first_of_list l₁) ≡ false → first_of_list (l₁ ++ l₂) ≡ first_of_list l₁
refused_already [] l₂ e = not_both (sym e)
refused_already ((true, why) ∷ l₁) l₂ e = refl
refused_already ((false, why) ∷ l₁) l₂ e = refused_already l₁ l₂ e

pub accepted_so_far : (l₁ l₂ : List (Bool × Refusal)) → is_accepted (first_of_list l₁) ≡ true → first_of_list (l₁ ++ l₂) ≡ first_of_list l₂
accepted_so_far [] l₂ e = refl
accepted_so_far ((true, why) ∷ l₁) l₂ e = not_both e
accepted_so_far ((false, why) ∷ l₁) l₂ e = accepted_so_far l₁ l₂ e
