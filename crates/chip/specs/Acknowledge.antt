-- What an acknowledge does inside the chip that answers (the rules paper, events 7 and 8).
use Rattle.std.specs.Prelude.{cond, ℕ, get_or}
use Rattle.bits.specs.Byte.{bit, with_bit, without_bit}
use Rattle.chip.specs.Data.{byte_count, memory_place}
use Rattle.chip.specs.Fields.{with_irr, with_isr, with_pointer}
use Rattle.chip.specs.declared.Chip.{Chip}

-- the chip answers a channel: its IRR bit clears, its ISR bit sets, the pointer becomes the channel
unfoldable pub answered : ℕ → Chip → Chip
answered channel c = with_irr (without_bit c.irr channel) (with_isr (with_bit c.isr channel) (with_pointer channel c))

-- the level of the response: the channel, or 0 in common vector mode (M1)
abbrev pub response_level : Chip → ℕ → ℕ
response_level c channel = cond (bit c.mode 1) 0 channel

-- its length: the byte count of the answered channel
abbrev pub response_length : Chip → ℕ → ℕ
response_length c channel = byte_count c.counts channel

-- the byte that the chip drives at a pulse, read from memory then
abbrev pub response_byte : Chip → ℕ → ℕ → ℕ
response_byte c level place = get_or c.memory (memory_place level place) 0

-- the response of a channel is over: its ISR bit clears if its ACR bit is then set
unfoldable pub finished : ℕ → Chip → Chip
finished channel c = cond (bit c.acr channel) (with_isr (without_bit c.isr channel) c) c
