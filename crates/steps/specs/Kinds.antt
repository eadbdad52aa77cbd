-- The steps of an event list: their names, and the arguments that each takes. Kind 0 is the start; 1 to 8 are the events.
use Rattle.std.specs.Prelude.{Bool, cond, not, ◌&&◌, Option, is_some, List, ℕ, eqb, take}
use Rattle.text.specs.Cast.{cast}
use Rattle.text.specs.Tables.{line_in, place_in}
use Rattle.text.specs.Written.{text}
use Rattle.text.specs.declared.Way.TheVariants.{Small}
use Rattle.steps.specs.declared.Argument.{Argument}
use Rattle.steps.specs.declared.Argument.TheVariants.{Count, Fill, Chip, Code, Byte, Channel, Level, End}
use Rattle.steps.specs.declared.Form.{Form}

-- the names, each in the line of its kind
abbrev pub names : List ℕ
names = text "start\ncommand\ndata\nstatus\nread\nline\nenable\nfall\nrise"

unfoldable pub name_of : ℕ → List ℕ
name_of kind = line_in kind names

-- the kind that a word names, if it names one
unfoldable pub kind_of : List ℕ → Option ℕ
kind_of word = place_in names 9 word

abbrev pub is_name : List ℕ → Bool
is_name word = is_some (kind_of word)

-- a word that is no name, but would be one in small letters; its first eight tell, since no name has as many
unfoldable pub in_capitals : List ℕ → Bool
in_capitals word = not (is_name word) && is_name (cast Small (take 8 word))

abbrev pub taking : Argument → Argument → Argument → Form
taking chip channel value = record { chip = chip; channel = channel; value = value }

-- start COUNT FILL, command CHIP CODE, data CHIP BYTE, status CHIP, read CHIP, line CHIP CHANNEL LEVEL, enable LEVEL, fall, rise
abbrev pub form_of : ℕ → Form
form_of kind =
    cond (eqb kind 0) (taking Count End Fill)
    (cond (eqb kind 1) (taking Chip End Code)
    (cond (eqb kind 2) (taking Chip End Byte)
    (cond (eqb kind 3) (taking Chip End End)
    (cond (eqb kind 4) (taking Chip End End)
    (cond (eqb kind 5) (taking Chip Channel Level)
    (cond (eqb kind 6) (taking End End Level)
    (taking End End End)))))))

-- an argument's line in a table
abbrev pub argument_number : Argument → ℕ
argument_number Count = 0
argument_number Fill = 1
argument_number Chip = 2
argument_number Code = 3
argument_number Byte = 4
argument_number Channel = 5
argument_number Level = 6
argument_number End = 7
