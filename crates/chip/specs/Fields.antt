-- A chip with one field replaced: the record is spelt out in this file, and in no other.
use Rattle.std.specs.Prelude.{List, ℕ, replicate}
use Rattle.chip.specs.declared.Chip.{Chip}
use Rattle.chip.specs.declared.Destination.{Destination}
use Rattle.chip.specs.declared.Destination.TheVariants.{Nowhere}

unfoldable pub with_irr : ℕ → Chip → Chip
with_irr new c =
    record { irr = new; isr = c.isr; imr = c.imr; acr = c.acr; mode = c.mode; command = c.command; memory = c.memory; counts = c.counts; lines = c.lines; pointer = c.pointer; destination = c.destination }

unfoldable pub with_isr : ℕ → Chip → Chip
with_isr new c =
    record { irr = c.irr; isr = new; imr = c.imr; acr = c.acr; mode = c.mode; command = c.command; memory = c.memory; counts = c.counts; lines = c.lines; pointer = c.pointer; destination = c.destination }

unfoldable pub with_imr : ℕ → Chip → Chip
with_imr new c =
    record { irr = c.irr; isr = c.isr; imr = new; acr = c.acr; mode = c.mode; command = c.command; memory = c.memory; counts = c.counts; lines = c.lines; pointer = c.pointer; destination = c.destination }

unfoldable pub with_acr : ℕ → Chip → Chip
with_acr new c =
    record { irr = c.irr; isr = c.isr; imr = c.imr; acr = new; mode = c.mode; command = c.command; memory = c.memory; counts = c.counts; lines = c.lines; pointer = c.pointer; destination = c.destination }

unfoldable pub with_mode : ℕ → Chip → Chip
with_mode new c =
    record { irr = c.irr; isr = c.isr; imr = c.imr; acr = c.acr; mode = new; command = c.command; memory = c.memory; counts = c.counts; lines = c.lines; pointer = c.pointer; destination = c.destination }

unfoldable pub with_command : ℕ → Chip → Chip
with_command new c =
    record { irr = c.irr; isr = c.isr; imr = c.imr; acr = c.acr; mode = c.mode; command = new; memory = c.memory; counts = c.counts; lines = c.lines; pointer = c.pointer; destination = c.destination }

unfoldable pub with_memory : List ℕ → Chip → Chip
with_memory new c =
    record { irr = c.irr; isr = c.isr; imr = c.imr; acr = c.acr; mode = c.mode; command = c.command; memory = new; counts = c.counts; lines = c.lines; pointer = c.pointer; destination = c.destination }

unfoldable pub with_counts : List ℕ → Chip → Chip
with_counts new c =
    record { irr = c.irr; isr = c.isr; imr = c.imr; acr = c.acr; mode = c.mode; command = c.command; memory = c.memory; counts = new; lines = c.lines; pointer = c.pointer; destination = c.destination }

unfoldable pub with_lines : ℕ → Chip → Chip
with_lines new c =
    record { irr = c.irr; isr = c.isr; imr = c.imr; acr = c.acr; mode = c.mode; command = c.command; memory = c.memory; counts = c.counts; lines = new; pointer = c.pointer; destination = c.destination }

unfoldable pub with_pointer : ℕ → Chip → Chip
with_pointer new c =
    record { irr = c.irr; isr = c.isr; imr = c.imr; acr = c.acr; mode = c.mode; command = c.command; memory = c.memory; counts = c.counts; lines = c.lines; pointer = new; destination = c.destination }

unfoldable pub with_destination : Destination → Chip → Chip
with_destination new c =
    record { irr = c.irr; isr = c.isr; imr = c.imr; acr = c.acr; mode = c.mode; command = c.command; memory = c.memory; counts = c.counts; lines = c.lines; pointer = c.pointer; destination = new }

-- all zero, without destination: the records of a refused start
unfoldable pub zero_chip : Chip
zero_chip =
    record { irr = 0; isr = 0; imr = 0; acr = 0; mode = 0; command = 0; memory = replicate 32 0; counts = replicate 8 0; lines = 0; pointer = 0; destination = Nowhere }
