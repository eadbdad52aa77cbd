-- When an event is refused (the rules paper, "Numbers handed back"): 1 before all others, then the event's own tests.
use Rattle.std.specs.Prelude.{Bool, not, ◌∷◌}
use Rattle.refusal.specs.Numbers.{first_of_list}
use Rattle.refusal.specs.declared.Refusal.{Refusal}
use Rattle.refusal.specs.declared.Refusal.TheVariants.{NotSound}
use Rattle.refusal.specs.Numbers.{Verdict}
use Rattle.event.specs.declared.Event.{Event}
use Rattle.decide.specs.Refusals.{checks}
use Rattle.chain.specs.Seen.{seen_by}
use Rattle.chain.specs.Sound.{sound}
use Rattle.chain.specs.declared.Chain.{Chain}

-- 1: chain not sound
abbrev pub not_sound : Chain → Bool × Refusal
not_sound s = (not (sound s), NotSound)

-- the first that applies, or accepted
unfoldable pub verdict_of : Event → Chain → Verdict
verdict_of e s = first_of_list (not_sound s ∷ checks e (seen_by e s))
