-- One name for what is decided: a proof that says `unfolding changes` has a change as a record, and with `decisions` computes what an event decides.
-- Assumes nothing.
use Rattle.decide.specs.Change.{nothing, answering, replacing, setting}
use Rattle.decide.specs.Decided.{decided}
use Rattle.decide.specs.Pulse.{selected_by, driving, first_pulse, fallen, risen_after, risen}

unfoldable pub changes : Unit {0}
unfolding nothing answering replacing setting
changes = tt

unfoldable pub decisions : Unit {0}
unfolding changes decided selected_by driving first_pulse fallen risen_after risen
decisions = tt
