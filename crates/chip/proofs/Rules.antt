-- One name for the rules of a chip: a proof that says `unfolding chip_rules` computes with all of them; and one for its fields alone.
-- Assumes nothing.
use Rattle.order.specs.Order.{first_in}
use Rattle.search.specs.Candidate.{candidate, candidate_in}
use Rattle.search.specs.Clear.{clear_highest, clear_first}
use Rattle.chip.specs.Acknowledge.{answered, finished}
use Rattle.chip.specs.Command.{obey, commanded}
use Rattle.chip.specs.Data.{data_written}
use Rattle.chip.specs.Fields.{with_irr, with_isr, with_imr, with_acr, with_mode, with_command, with_memory, with_counts, with_lines, with_pointer, with_destination, zero_chip}
use Rattle.figure4.specs.Figure4.{figure4}
use Rattle.chip.specs.Line.{line_set}
use Rattle.chip.specs.Reset.{reset, power_up}
use Rattle.chip.specs.Sound.{codes_sound, chip_sound}

-- a chip with one field replaced, as a record
unfoldable pub chip_fields : Unit {0}
unfolding with_irr with_isr with_imr with_acr with_mode with_command with_memory with_counts with_lines with_pointer with_destination zero_chip
chip_fields = tt

unfoldable pub chip_rules : Unit {0}
unfolding chip_fields candidate candidate_in clear_highest clear_first first_in answered finished obey commanded data_written figure4 line_set reset power_up codes_sound chip_sound
chip_rules = tt
