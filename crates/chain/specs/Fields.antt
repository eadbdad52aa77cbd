-- A chain with its own fields, its event number or one of its chips replaced: the record is spelt out here, and besides in Start alone.
use Rattle.std.specs.Prelude.{None, Bool, false, List, ℕ, get_or, set, replicate}
use Rattle.chip.specs.Fields.{zero_chip}
use Rattle.chip.specs.declared.Chip.{Chip}
use Rattle.chain.specs.declared.Chain.{Chain}
use Rattle.response.specs.Held.{Response}

unfoldable pub with_chips : List Chip → Chain → Chain
with_chips new s =
    record { count = s.count; chips = new; enable = s.enable; iack = s.iack; response = s.response; event = s.event }

-- the chain's own fields: Enable In, IACK and the response
unfoldable pub with_own : Bool → Bool → Response → Chain → Chain
with_own enable iack response s =
    record { count = s.count; chips = s.chips; enable = enable; iack = iack; response = response; event = s.event }

unfoldable pub with_event : ℕ → Chain → Chain
with_event new s =
    record { count = s.count; chips = s.chips; enable = s.enable; iack = s.iack; response = s.response; event = new }

-- the chain of a refused start: count 0, all zero, without destination or response
unfoldable pub zero_chain : Chain
zero_chain = record { count = 0; chips = replicate 8 zero_chip; enable = false; iack = false; response = None; event = 0 }

-- chip i of the chain; past the eight records, a chip that is all zero
abbrev pub chip_at : Chain → ℕ → Chip
chip_at s i = get_or s.chips i zero_chip

-- the chain with chip i replaced
unfoldable pub with_chip : ℕ → Chip → Chain → Chain
with_chip i c s = with_chips (set s.chips i c) s
