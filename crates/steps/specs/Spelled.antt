-- A step in one spelling: its name, and what it takes; bytes as two hex digits, other numbers in decimal without zeros in front.
use Rattle.std.specs.Prelude.{List, [], ◌∷◌, ℕ}
use Rattle.event.specs.declared.Numbered.{Numbered}
use Rattle.text.specs.Written.{joined, field, byte_field}
use Rattle.steps.specs.Kinds.{name_of, form_of}
use Rattle.steps.specs.declared.Argument.{Argument}
use Rattle.steps.specs.declared.Argument.TheVariants.{Count, Fill, Chip, Code, Byte, Channel, Level, End}
use Rattle.steps.specs.declared.Form.{Form}

abbrev pub spelled_as : Argument → ℕ → List ℕ
spelled_as Count n = field " " n
spelled_as Fill n = byte_field " " n
spelled_as Chip n = field " " n
spelled_as Code n = byte_field " " n
spelled_as Byte n = byte_field " " n
spelled_as Channel n = field " " n
spelled_as Level n = field " " n
spelled_as End n = []

-- a step is its four numbers; a start has kind 0, its count in the chip's place and its fill in the value's
abbrev pub spelled_parts : Form → Numbered → List (List ℕ)
spelled_parts form n =
    name_of n.kind ∷ spelled_as form.chip n.chip ∷ spelled_as form.channel n.channel ∷ spelled_as form.value n.value ∷ []

unfoldable pub spelled : Numbered → List ℕ
spelled n = joined (spelled_parts (form_of n.kind) n)
