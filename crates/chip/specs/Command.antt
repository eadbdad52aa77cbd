-- What a chip does on a command (the rules paper, event 1): each row of Figure 4.
use Rattle.std.specs.Prelude.{Ok, Err, ℕ, ◌+◌, ◌*◌, ◌/◌, ◌%◌, set}
use Rattle.bits.specs.Byte.{with_bit, without_bit}
use Rattle.search.specs.Clear.{clear_highest}
use Rattle.chip.specs.Fields.{with_irr, with_isr, with_imr, with_mode, with_command, with_counts, with_destination}
use Rattle.chip.specs.Reset.{reset}
use Rattle.chip.specs.declared.Chip.{Chip}
use Rattle.figure4.specs.declared.Command.{Command}
use Rattle.figure4.specs.declared.Command.TheVariants.{Reset, ClearIrrAndImr, ClearIrrAndImrBit, ClearImr, ClearImrBit, SetImr, SetImrBit, ClearIrr, ClearIrrBit, SetIrr, SetIrrBit, ClearHighestIsr, ClearIsr, ClearIsrBit, LoadMode, LoadRead, LoadReadAndArm, LoadReadAndDisarm, PreselectImr, PreselectAcr, PreselectLevel}
use Rattle.chip.specs.declared.Destination.TheVariants.{Nowhere, Imr, Acr, Level}
use Rattle.figure4.specs.Figure4.{Meaning}

unfoldable pub obey : Command → Chip → Chip
obey Reset c = reset c
obey ClearIrrAndImr c = with_irr 0 (with_imr 0 c)
obey (ClearIrrAndImrBit k) c = with_irr (without_bit c.irr k) (with_imr (without_bit c.imr k) c)
obey ClearImr c = with_imr 0 c
obey (ClearImrBit k) c = with_imr (without_bit c.imr k) c
obey SetImr c = with_imr 255 c
obey (SetImrBit k) c = with_imr (with_bit c.imr k) c
obey ClearIrr c = with_irr 0 c
obey (ClearIrrBit k) c = with_irr (without_bit c.irr k) c
obey SetIrr c = with_irr 255 c
obey (SetIrrBit k) c = with_irr (with_bit c.irr k) c
obey ClearHighestIsr c = with_isr (clear_highest c.isr c.mode c.pointer) c
obey ClearIsr c = with_isr 0 c
obey (ClearIsrBit k) c = with_isr (without_bit c.isr k) c
obey (LoadMode m) c = with_mode (c.mode / 32 * 32 + m) c
obey (LoadRead m) c = with_mode (c.mode / 128 * 128 + m * 32 + c.mode % 32) c
obey (LoadReadAndArm m) c = with_mode (128 + m * 32 + c.mode % 32) c
obey (LoadReadAndDisarm m) c = with_mode (m * 32 + c.mode % 32) c
obey PreselectImr c = with_destination Imr c
obey PreselectAcr c = with_destination Acr c
obey (PreselectLevel count level) c = with_counts (set c.counts level count) (with_destination (Level level 0) c)

-- a command write: it ends the earlier destination (D), the code becomes the last command, and its row is carried out
unfoldable pub commanded : Meaning → ℕ → Chip → Chip
commanded (Ok row) code c = obey row (with_command code (with_destination Nowhere c))
commanded (Err kind) code c = c
