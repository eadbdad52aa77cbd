-- Response levels, data writes and data reads of a chip (the rules paper, events 2 and 4).
use Rattle.std.specs.Prelude.{Bool, false, true, cond, List, ℕ, ◌+◌, ◌*◌, leb, get_or, set}
use Rattle.bits.specs.Byte.{bit}
use Rattle.chip.specs.Fields.{with_imr, with_acr, with_memory, with_destination}
use Rattle.chip.specs.declared.Chip.{Chip}
use Rattle.chip.specs.declared.Destination.{Destination}
use Rattle.chip.specs.declared.Destination.TheVariants.{Nowhere, Imr, Acr, Level}

-- the byte count of a level: a code 0 to 3 means 1 to 4 bytes (Figure 5)
abbrev pub byte_count : List ℕ → ℕ → ℕ
byte_count counts level = get_or counts level 0 + 1

-- where the byte of a level and a place stands in the response memory
abbrev pub memory_place : ℕ → ℕ → ℕ
memory_place level place = level * 4 + place

-- refusal 8: no destination
abbrev pub has_no_destination : Destination → Bool
has_no_destination Nowhere = true
has_no_destination Imr = false
has_no_destination Acr = false
has_no_destination (Level level place) = false

-- refusal 9: a level, with the place at or past its count
abbrev pub is_past_its_count : List ℕ → Destination → Bool
is_past_its_count counts Nowhere = false
is_past_its_count counts Imr = false
is_past_its_count counts Acr = false
is_past_its_count counts (Level level place) = leb (byte_count counts level) place

-- a data write: IMR and ACR may be written repeatedly; a level takes the byte at its next place
unfoldable pub data_written : Destination → ℕ → Chip → Chip
data_written Nowhere byte c = c
data_written Imr byte c = with_imr byte c
data_written Acr byte c = with_acr byte c
data_written (Level level place) byte c =
    with_memory (set c.memory (memory_place level place) byte) (with_destination (Level level (place + 1)) c)

-- a data read, by M6 M5: 00 ISR, 01 IMR, 10 IRR, 11 ACR
abbrev pub data_read : Chip → ℕ
data_read c = cond (bit c.mode 6) (cond (bit c.mode 5) c.acr c.irr) (cond (bit c.mode 5) c.imr c.isr)
