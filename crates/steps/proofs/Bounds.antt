-- How long a step's name may be: no longer than the table of names; and a step.
-- Assumes nothing.
use Prim.Native.Nat.{ℕ, ◌≤◌}
use native.Mathlib.Omega.{arith}
use lib.ListN.{length}
use Rattle.event.specs.declared.Numbered.{Numbered}
use Rattle.text.proofs.Fits.{joined_le, field_le, byte_le}
use Rattle.text.proofs.Places.{line_le}
use Rattle.steps.specs.Kinds.{names, name_of, form_of}
use Rattle.steps.specs.Spelled.{spelled_as, spelled_parts, spelled}
use Rattle.steps.specs.declared.Argument.{Argument}
use Rattle.steps.specs.declared.Argument.TheVariants.{Count, Fill, Chip, Code, Byte, Channel, Level, End}
use Rattle.steps.specs.declared.Form.{Form}

pub name_le : (kind : ℕ) → length (name_of kind) ≤ 64
unfolding name_of
name_le kind = omega (arith, line_le kind names)

argument_le : (argument : Argument) (n : ℕ) → length (spelled_as argument n) ≤ 64
argument_le Count n = omega (arith, field_le " " n (omega arith))
argument_le Fill n = omega (arith, byte_le " " n (omega arith))
argument_le Chip n = omega (arith, field_le " " n (omega arith))
argument_le Code n = omega (arith, byte_le " " n (omega arith))
argument_le Byte n = omega (arith, byte_le " " n (omega arith))
argument_le Channel n = omega (arith, field_le " " n (omega arith))
argument_le Level n = omega (arith, field_le " " n (omega arith))
argument_le End n = omega arith

pub spelled_le : (step : Numbered) → length (spelled step) ≤ 256
unfolding spelled
spelled_le step =
    let form : Form = form_of step.kind in
    joined_le 64 (spelled_parts form step)
    (name_le step.kind, (argument_le form.chip step.chip, (argument_le form.channel step.channel, (argument_le form.value step.value, tt))))
