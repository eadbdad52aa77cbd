-- What an event on an image is shown.
use Rattle.std.specs.Prelude.{Bool, ℕ, ◌%◌}
use Rattle.event.specs.declared.Event.{Event}
use Rattle.decide.specs.Look.{look_of}
use Rattle.decide.specs.declared.Seen.{Seen}
use Rattle.chain.specs.Fields.{chip_at}
use Rattle.chain.specs.Seen.{looked_at, looked_ei}
use Rattle.chain.specs.declared.Chain.{Chain}

-- what is seen at a number, with the records counted round: below eight it is what a chain shows (`chain/specs/Seen`). For a number past the eight records the
-- chip is some other, and no event looks at it (`proofs/Shown`)
unfoldable pub seen_round : ℕ → Bool → Chain → Seen
seen_round at ei s =
    record { count = s.count; enable = s.enable; iack = s.iack; response = s.response; at = at; chip = chip_at s (at % 8); ei = ei }

abbrev pub shown_to : Event → Chain → Seen
shown_to e s = seen_round (looked_at (look_of e s.response) s) (looked_ei (look_of e s.response) s) s
