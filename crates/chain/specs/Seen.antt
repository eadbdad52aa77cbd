-- What an event looks at in a chain: the chain's own fields, and the chip that it names, that responds or that answers.
use Rattle.std.specs.Prelude.{Bool, false, ℕ}
use Rattle.event.specs.declared.Event.{Event}
use Rattle.response.specs.Held.{Response}
use Rattle.decide.specs.Look.{look_of}
use Rattle.decide.specs.Pulse.{selected_by}
use Rattle.decide.specs.declared.Look.{Look}
use Rattle.decide.specs.declared.Look.TheVariants.{Nowhere, At, AtEi, Answering}
use Rattle.decide.specs.declared.Seen.{Seen}
use Rattle.chain.specs.Fields.{chip_at}
use Rattle.chain.specs.Pins.{ei}
use Rattle.chain.specs.Walk.{answering_chip}
use Rattle.chain.specs.declared.Chain.{Chain}

-- the number of the chip; the count where there is no such chip
abbrev pub looked_at : Look → Chain → ℕ
looked_at Nowhere s = s.count
looked_at (At i) s = i
looked_at (AtEi i) s = i
looked_at Answering s = answering_chip s

-- its Enable In, for an event that looks at it
abbrev pub looked_ei : Look → Chain → Bool
looked_ei Nowhere s = false
looked_ei (At i) s = false
looked_ei (AtEi i) s = ei s i
looked_ei Answering s = false

unfoldable pub seen_at : ℕ → Bool → Chain → Seen
seen_at at ei s =
    record { count = s.count; enable = s.enable; iack = s.iack; response = s.response; at = at; chip = chip_at s at; ei = ei }

abbrev pub seen_in : Look → Chain → Seen
seen_in look s = seen_at (looked_at look s) (looked_ei look s) s

abbrev pub seen_by : Event → Chain → Seen
seen_by e s = seen_in (look_of e s.response) s

-- what a first pulse selects in a chain: the candidate of the chip that answers, or nothing, and the pulse stalls
unfoldable pub selected : Chain → Response
selected s = selected_by (seen_in Answering s)
