-- Along a list of events, accepted and refused ones: the chain after it, and how many of them pass a test.
use Rattle.std.specs.Prelude.{Bool, List, [], ◌∷◌, ℕ, ◌+◌, eqb}
use Rattle.bits.specs.Below.{digit}
use Rattle.refusal.specs.Answers.{handed}
use Rattle.chain.specs.Events.{event_of}
use Rattle.chain.specs.declared.Chain.{Chain}
use Rattle.event.specs.declared.Event.{Event}

-- the chain after a list of events
unfoldable pub after : Chain → List Event → Chain
after s [] = s
after s (e ∷ es) = after (event_of e s).chain es

-- how many events of a list pass a test of the event and the chain just before it
unfoldable pub along : (Event → Chain → Bool) → Chain → List Event → ℕ
along test s [] = 0
along test s (e ∷ es) = digit (test e s) + along test (event_of e s).chain es

-- an accepted event hands back the number 0
abbrev pub accepts : Event → Chain → Bool
accepts e s = eqb (handed (event_of e s).answer).number 0

-- how many are accepted
abbrev pub accepted_in : Chain → List Event → ℕ
accepted_in s es = along accepts s es
