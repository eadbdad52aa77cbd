-- What the logic reads past the end of an array of chips. No rule meets it: a chain has eight records.
-- Assumes nothing.
use mathlib.Core.List.{[]}
use Rattle.chip.specs.declared.Chip.{Chip}
use Rattle.chip.specs.declared.Destination.TheVariants.{Nowhere}

abbrev pub no_chip : Chip
no_chip =
    record { irr = 0; isr = 0; imr = 0; acr = 0; mode = 0; command = 0; memory = []; counts = []; lines = 0; pointer = 0; destination = Nowhere }
