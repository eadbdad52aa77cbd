-- The pointer is the channel answered last: only an answer and a reset move it.
-- Assumes nothing.
use Rattle.std.specs.Prelude.{Ok, Err}
use mathlib.Core.Bool.{Bool, true, false, cond, true≢false}
use mathlib.Core.Path.{◌≡◌, refl}
use Prim.Native.Nat.{ℕ}
use Rattle.bits.specs.Byte.{bit, without_bit}
use Rattle.chip.specs.Acknowledge.{answered, finished}
use Rattle.chip.specs.Command.{obey, commanded}
use Rattle.chip.specs.Data.{data_written}
use Rattle.chip.specs.Fields.{with_isr}
use Rattle.figure4.specs.Figure4.{figure4, is_reset, Meaning}
use Rattle.chip.specs.Line.{line_set}
use Rattle.chip.specs.declared.Chip.{Chip}
use Rattle.figure4.specs.declared.Command.{Command}
use Rattle.figure4.specs.declared.Command.TheVariants.{Reset, ClearIrrAndImr, ClearIrrAndImrBit, ClearImr, ClearImrBit, SetImr, SetImrBit, ClearIrr, ClearIrrBit, SetIrr, SetIrrBit, ClearHighestIsr, ClearIsr, ClearIsrBit, LoadMode, LoadRead, LoadReadAndArm, LoadReadAndDisarm, PreselectImr, PreselectAcr, PreselectLevel}
use Rattle.chip.specs.declared.Destination.{Destination}
use Rattle.chip.specs.declared.Destination.TheVariants.{Nowhere, Imr, Acr, Level}
use Rattle.figure4.proofs.Figure4.{is_reset_row, no_reset}
use Rattle.chip.proofs.Rules.{chip_fields}

-- an answer makes it the channel
pub answered_pointer : (channel : ℕ) (c : Chip) → (answered channel c).pointer ≡ channel
unfolding chip_fields answered
answered_pointer channel c = refl

-- a command other than reset leaves it
row_pointer : (row : Command) (code : ℕ) (c : Chip) → is_reset_row row ≡ false → (commanded (Ok row) code c).pointer ≡ c.pointer
unfolding chip_fields commanded obey
row_pointer Reset code c e = absurd (true≢false e)
row_pointer ClearIrrAndImr code c e = refl
row_pointer (ClearIrrAndImrBit k) code c e = refl
row_pointer ClearImr code c e = refl
row_pointer (ClearImrBit k) code c e = refl
row_pointer SetImr code c e = refl
row_pointer (SetImrBit k) code c e = refl
row_pointer ClearIrr code c e = refl
row_pointer (ClearIrrBit k) code c e = refl
row_pointer SetIrr code c e = refl
row_pointer (SetIrrBit k) code c e = refl
row_pointer ClearHighestIsr code c e = refl
row_pointer ClearIsr code c e = refl
row_pointer (ClearIsrBit k) code c e = refl
row_pointer (LoadMode m) code c e = refl
row_pointer (LoadRead m) code c e = refl
row_pointer (LoadReadAndArm m) code c e = refl
row_pointer (LoadReadAndDisarm m) code c e = refl
row_pointer PreselectImr code c e = refl
row_pointer PreselectAcr code c e = refl
row_pointer (PreselectLevel count level) code c e = refl

meaning_pointer : (meaning : Meaning) (code : ℕ) (c : Chip) → figure4 code ≡ meaning → is_reset code ≡ false → (commanded meaning code c).pointer ≡ c.pointer
unfolding commanded
meaning_pointer (Ok row) code c is other = row_pointer row code c (no_reset code row is other)
meaning_pointer (Err kind) code c is other = refl

pub commanded_pointer : (code : ℕ) (c : Chip) → is_reset code ≡ false → (commanded (figure4 code) code c).pointer ≡ c.pointer
commanded_pointer code c other = meaning_pointer (figure4 code) code c refl other

-- a data write, a line and the end of a response leave it
pub written_pointer : (d : Destination) (byte : ℕ) (c : Chip) → (data_written d byte c).pointer ≡ c.pointer
unfolding chip_fields data_written
written_pointer Nowhere byte c = refl
written_pointer Imr byte c = refl
written_pointer Acr byte c = refl
written_pointer (Level level place) byte c = refl

pub line_pointer : (channel : ℕ) (high : Bool) (c : Chip) → (line_set channel high c).pointer ≡ c.pointer
unfolding chip_fields line_set
line_pointer channel high c = refl

finished_by : (auto : Bool) (channel : ℕ) (c : Chip) → (cond auto (with_isr (without_bit c.isr channel) c) c).pointer ≡ c.pointer
unfolding chip_fields
finished_by true channel c = refl
finished_by false channel c = refl

pub finished_pointer : (channel : ℕ) (c : Chip) → (finished channel c).pointer ≡ c.pointer
unfolding finished
finished_pointer channel c = finished_by (bit c.acr channel) channel c
