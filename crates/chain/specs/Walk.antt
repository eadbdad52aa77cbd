-- The walk along a chain (the rules paper, event 7): who answers a first pulse.
use Rattle.std.specs.Prelude.{◌&&◌, ℕ}
use Rattle.bits.specs.Below.{first}
use Rattle.chip.specs.Status.{gint_active}
use Rattle.response.specs.declared.Walk.{Walk}
use Rattle.chain.specs.Fields.{chip_at}
use Rattle.chain.specs.Pins.{ei}
use Rattle.chain.specs.declared.Chain.{Chain}

-- of the first n chips, the first with M2 clear and a candidate while EI is high; n if none is
abbrev pub answering_below : ℕ → Chain → ℕ
answering_below n s = first n (λ i. ei s i && gint_active (chip_at s i))

-- who answers a first pulse: from chip 0, while EI is high, the first chip with M2 clear and a candidate; the count if no chip does
unfoldable pub answering_chip : Chain → ℕ
answering_chip s = answering_below s.count s

-- the walk that has come to chip n
unfoldable pub walked_to : Chain → ℕ → Walk
walked_to s n = record { at = n; ei = ei s n; answering = answering_below n s }
