-- When a chip's record is sound (the rules paper, "A chip").
use Rattle.std.specs.Prelude.{Bool, true, ◌&&◌, List, ℕ, leb, get_or}
use Rattle.bits.specs.Below.{every}
use Rattle.chip.specs.declared.Chip.{Chip}
use Rattle.chip.specs.declared.Destination.{Destination}
use Rattle.chip.specs.declared.Destination.TheVariants.{Nowhere, Imr, Acr, Level}

-- the chosen level at most 7, its place at most 4
abbrev pub destination_sound : Destination → Bool
destination_sound Nowhere = true
destination_sound Imr = true
destination_sound Acr = true
destination_sound (Level level place) = leb level 7 && leb place 4

-- each of the eight codes at most 3
unfoldable pub codes_sound : List ℕ → Bool
codes_sound counts = every 8 (λ level. leb (get_or counts level 0) 3)

-- codes at most 3, pointer at most 7, and the destination
unfoldable pub chip_sound : Chip → Bool
chip_sound c = codes_sound c.counts && leb c.pointer 7 && destination_sound c.destination
