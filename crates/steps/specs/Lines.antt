-- What a line of an event list says.
use Rattle.std.specs.Prelude.{Option, Some, None, Ok, Err, Bool, true, false, cond, not, ◌&&◌, ◌||◌, List, ℕ, ◌+◌, ◌-◌, eqb, ltb, length, get_or, take, drop}
use Rattle.event.specs.Numbers.{listed, Listed}
use Rattle.text.specs.Words.{word, behind, word_at, decimal_in, hex_in, word_start, word_end}
use Rattle.steps.specs.Kinds.{kind_of, form_of, argument_number}
use Rattle.steps.specs.declared.Argument.{Argument}
use Rattle.steps.specs.declared.Argument.TheVariants.{Count, Fill, Chip, Code, Byte, Channel, Level, End}
use Rattle.steps.specs.declared.Expected.{Expected}
use Rattle.steps.specs.declared.Expected.TheVariants.{Shorter, TheStart, AnEvent, Wanted}
use Rattle.steps.specs.declared.Form.{Form}
use Rattle.steps.specs.declared.Step.{Step}
use Rattle.steps.specs.declared.Step.TheVariants.{Nothing, Start, Happens, Malformed}

-- bytes are hex; other numbers decimal; what a step does not take is 0
abbrev pub value_of : Argument → List ℕ → Option ℕ
value_of Count found = decimal_in found
value_of Fill found = hex_in found
value_of Chip found = decimal_in found
value_of Code found = hex_in found
value_of Byte found = hex_in found
value_of Channel found = decimal_in found
value_of Level found = decimal_in found
value_of End found = Some 0

-- an argument is a word, and what a step does not take is none
abbrev pub argument_end : Argument → List ℕ → ℕ
argument_end argument line = cond (eqb (argument_number argument) 7) 0 (word_end line)

unfoldable pub behind_argument : Argument → List ℕ → List ℕ
behind_argument argument line = drop (argument_end argument line) line

-- there is no word in it
abbrev pub is_over : List ℕ → Bool
is_over line = eqb (word_start line) (word_end line)

-- the step of a kind with its numbers: the count and the fill of a start, or the event that they are in a list of numbers
abbrev pub happening : Listed → Step
happening (Ok e) = Happens e
happening (Err _) = Malformed AnEvent 0

abbrev pub made : ℕ → ℕ → ℕ → ℕ → Step
made kind chip channel value = cond (eqb kind 0) (Start chip value) (happening (listed kind chip channel value))

-- which word of the line each argument is, and the end behind them: the name is word 0
abbrev pub words : Argument → ℕ
words argument = cond (eqb (argument_number argument) 7) 0 1

abbrev pub channel_place : Form → ℕ
channel_place form = 1 + words form.chip

abbrev pub value_place : Form → ℕ
value_place form = channel_place form + words form.channel

abbrev pub end_place : Form → ℕ
end_place form = value_place form + words form.value

-- of the three arguments and the end behind them, the first that is wrong is what was expected, at its place
unfoldable pub step_from : ℕ → Option ℕ → Option ℕ → Option ℕ → Bool → Step
step_from kind None channel value over = Malformed (Wanted kind (form_of kind).chip) 1
step_from kind (Some a) None value over = Malformed (Wanted kind (form_of kind).channel) (channel_place (form_of kind))
step_from kind (Some a) (Some b) None over = Malformed (Wanted kind (form_of kind).value) (value_place (form_of kind))
step_from kind (Some a) (Some b) (Some c) over = cond over (made kind a b c) (Malformed (Wanted kind End) (end_place (form_of kind)))

-- each argument behind the name, by what it should be
unfoldable pub read_by : ℕ → Form → List ℕ → Step
read_by kind form rest =
    let second : List ℕ = behind_argument form.chip rest in
    let third : List ℕ = behind_argument form.channel second in
    step_from
    kind
    (value_of form.chip (word rest))
    (value_of form.channel (word second))
    (value_of form.value (word third))
    (is_over (behind_argument form.value third))

unfoldable pub read_as : ℕ → List ℕ → Step
read_as kind rest = read_by kind (form_of kind) rest

-- the start stands first, and nowhere else
abbrev pub may_stand : Bool → ℕ → Bool
may_stand started kind = ltb kind 9 && (started && not (eqb kind 0) || not started && eqb kind 0)

abbrev pub awaited : Bool → Expected
awaited false = TheStart
awaited true = AnEvent

abbrev pub step_named : Bool → Option ℕ → List ℕ → Step
step_named started (Some kind) rest = cond (may_stand started kind) (read_as kind rest) (Malformed (awaited started) 0)
step_named started None rest = Malformed (awaited started) 0

-- the first word names the step; a line without one says nothing
unfoldable pub step_in : Bool → List ℕ → Step
step_in started line = cond (is_over line) Nothing (step_named started (kind_of (word line)) (behind line))

-- a carriage return (13) at the end of a line is not part of its text
abbrev pub text_end : List ℕ → ℕ
text_end line = cond (eqb (get_or line (length line - 1) 0) 13) (length line - 1) (length line)

-- a line has at most 1,024 bytes, its line feed not counted
abbrev pub too_long : List ℕ → Bool
too_long line = ltb 1024 (length line)

unfoldable pub step_of : Bool → List ℕ → Step
step_of started line = cond (too_long line) (Malformed Shorter 0) (step_in started (take (text_end line) line))

-- the word that stands at a place of a line; of a line that is too long, the first 1,024 bytes are looked at
abbrev pub looked_at : List ℕ → ℕ
looked_at line = cond (too_long line) 1024 (text_end line)

unfoldable pub found_in : ℕ → List ℕ → List ℕ
found_in place line = word_at place (take (looked_at line) line)
