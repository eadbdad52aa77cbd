-- What an accepted event does (the rules paper, "The eight events"): what it answers, and what it changes.
use Rattle.std.specs.Prelude.{Some, None, Ok, Bool, cond, eqb}
use Rattle.event.specs.declared.Event.{Event}
use Rattle.event.specs.declared.Event.TheVariants.{Command, Data, Status, Read, Line, Enable, Fall, Rise}
use Rattle.chip.specs.Command.{commanded}
use Rattle.chip.specs.Data.{data_read, data_written}
use Rattle.figure4.specs.Figure4.{figure4}
use Rattle.chip.specs.Line.{line_set}
use Rattle.chip.specs.Status.{status_byte}
use Rattle.response.specs.Held.{ends_response}
use Rattle.decide.specs.Change.{nothing, answering, replacing, setting}
use Rattle.decide.specs.Pulse.{fallen, risen}
use Rattle.decide.specs.declared.Change.{Change}
use Rattle.decide.specs.declared.Seen.{Seen}

-- a command, and the end that a reset makes to a response of its chip (D)
abbrev pub ending : Bool → Seen → Change → Change
ending ends v c = cond ends (setting v.enable v.iack None c) c

unfoldable pub decided : Event → Seen → Change
decided (Command i code) v =
    ending (ends_response v.at code v.response) v (replacing v.at (commanded (figure4 code) code v.chip) nothing)
decided (Data i byte) v = replacing v.at (data_written v.chip.destination byte v.chip) nothing
decided (Status i) v = answering (Ok (Some (status_byte v.chip v.ei))) nothing
decided (Read i) v = answering (Ok (Some (data_read v.chip))) nothing
decided (Line i channel level) v = replacing v.at (line_set channel (eqb level 1) v.chip) nothing
decided (Enable level) v = setting (eqb level 1) v.iack v.response nothing
decided Fall v = fallen v.response v
decided Rise v = risen v.response v
