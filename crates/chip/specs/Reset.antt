-- Reset and power-up (the rules paper, "A chip" and event 1).
use Rattle.std.specs.Prelude.{ℕ, ◌%◌, replicate}
use Rattle.chip.specs.Fields.{with_irr, with_isr, with_imr, with_acr, with_mode, with_command, with_memory, with_counts, with_lines, with_pointer, with_destination, zero_chip}
use Rattle.chip.specs.declared.Chip.{Chip}
use Rattle.chip.specs.declared.Destination.TheVariants.{Nowhere}

-- reset clears all registers but IMR, which becomes 255; pointer 7, no destination. Memory, counts and lines stay
unfoldable pub reset : Chip → Chip
reset c =
    with_irr 0 (with_isr 0 (with_imr 255 (with_acr 0 (with_mode 0 (with_command 0 (with_pointer 7 (with_destination Nowhere c)))))))

-- the power-up chip: as after reset, with all lines high, every response byte equal to the fill and every count code the fill modulo 4
unfoldable pub power_up : ℕ → Chip
power_up fill = reset (with_lines 255 (with_memory (replicate 32 fill) (with_counts (replicate 8 (fill % 4)) zero_chip)))
