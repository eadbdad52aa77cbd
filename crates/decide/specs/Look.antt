-- Where each event looks, beside the chain's own fields (the rules paper, "The eight events"): at the chip that it names, that responds or that answers.
use Rattle.std.specs.Prelude.{Some, None}
use Rattle.event.specs.declared.Event.{Event}
use Rattle.event.specs.declared.Event.TheVariants.{Command, Data, Status, Read, Line, Enable, Fall, Rise}
use Rattle.response.specs.Held.{Response}
use Rattle.decide.specs.declared.Look.{Look}
use Rattle.decide.specs.declared.Look.TheVariants.{Nowhere, At, AtEi, Answering}

-- at the chip that responds, if one does
abbrev pub unless_responding : Look → Response → Look
unless_responding look None = look
unless_responding look (Some r) = At r.chip

-- a status byte shows the chip's EI; a fall without a response under way is a first pulse
abbrev pub look_of : Event → Response → Look
look_of (Command i code) response = At i
look_of (Data i byte) response = At i
look_of (Status i) response = AtEi i
look_of (Read i) response = At i
look_of (Line i channel level) response = At i
look_of (Enable level) response = Nowhere
look_of Fall response = unless_responding Answering response
look_of Rise response = unless_responding Nowhere response
