-- What an accepted event has passed: the chain is sound, and its own tests.
-- Assumes nothing.
use Rattle.std.specs.Prelude.{Ok}
use mathlib.Core.Bool.{true, not}
use mathlib.Core.Path.{◌≡◌}
use borrow.Author.Tests.{not-false}
use Rattle.refusal.proofs.Numbers.{passed_first, passed_rest}
use Rattle.refusal.specs.declared.Refusal.TheVariants.{NotSound}
use Rattle.event.specs.declared.Event.{Event}
use Rattle.decide.specs.Refusals.{checks, verdict_on}
use Rattle.chain.specs.Refusals.{verdict_of}
use Rattle.chain.specs.Seen.{seen_by}
use Rattle.chain.specs.Sound.{sound}
use Rattle.chain.specs.declared.Chain.{Chain}

pub passed_sound : (e : Event) (s : Chain) → verdict_of e s ≡ Ok tt → sound s ≡ true
unfolding verdict_of
passed_sound e s v = not-false (sound s) (passed_first (not (sound s)) NotSound (checks e (seen_by e s)) v)

-- on a sound chain the tests after refusal 1 decide
pub sound_verdict : (e : Event) (s : Chain) → sound s ≡ true → verdict_of e s ≡ verdict_on e (seen_by e s)
unfolding verdict_of
sound_verdict e s h = simp h

pub passed_tests : (e : Event) (s : Chain) → verdict_of e s ≡ Ok tt → verdict_on e (seen_by e s) ≡ Ok tt
unfolding verdict_of
passed_tests e s v = passed_rest (not (sound s)) NotSound (checks e (seen_by e s)) v
