-- What is said where a list ends before its last line: a refusal, or what stood there and what should have.
use Rattle.std.specs.Prelude.{Bool, cond, ◌||◌, List, [], ◌∷◌, ◌++◌, ℕ, eqb, length, take}
use Rattle.event.specs.declared.Numbered.{Numbered}
use Rattle.refusal.specs.Numbers.{refusal_number}
use Rattle.refusal.specs.Sentences.{meaning_of}
use Rattle.refusal.specs.declared.Refusal.{Refusal}
use Rattle.steps.specs.Kinds.{name_of, in_capitals, form_of, argument_number}
use Rattle.steps.specs.Spelled.{spelled}
use Rattle.steps.specs.declared.Argument.{Argument}
use Rattle.steps.specs.declared.Expected.{Expected}
use Rattle.steps.specs.declared.Expected.TheVariants.{Shorter, TheStart, AnEvent, Wanted}
use Rattle.steps.specs.declared.Form.{Form}
use Rattle.text.specs.Cast.{cast}
use Rattle.text.specs.Tables.{line_in}
use Rattle.text.specs.Words.{begins}
use Rattle.text.specs.Written.{text, joined, field}
use Rattle.text.specs.declared.Way.TheVariants.{Shown}

-- at L STEP refused R: and what the number says
abbrev pub refused_parts : ℕ → Numbered → ℕ → List (List ℕ)
refused_parts line step number =
    field "at " line ∷ text " " ∷ spelled step ∷ field " refused " number ∷ text ": " ∷ meaning_of number ∷ text "\n" ∷ []

unfoldable pub refused_line : ℕ → Numbered → Refusal → List ℕ
refused_line line step why = joined (refused_parts line step (refusal_number why))

-- the arguments' names, each in the line of its number; what a step does not take has none
abbrev pub slots : List ℕ
slots = text " COUNT\n FILL\n CHIP\n CODE\n BYTE\n CHANNEL\n LEVEL\n"

unfoldable pub slot : Argument → List ℕ
slot argument = line_in (argument_number argument) slots

-- what to write for each
abbrev pub helps : List ℕ
helps =
    text " (how many chips, decimal, 1 to 8)\n"
    ++ text " (the byte in the response memory at power-up, one or two hex digits)\n"
    ++ text " (a chip's number, decimal, 0 for the first)\n"
    ++ text " (a command, one or two hex digits)\n"
    ++ text " (a byte, one or two hex digits)\n"
    ++ text " (a channel's number, decimal, 0 to 7)\n"
    ++ text " (a level, 0 or 1)\n"
    ++ text " the end of the line, or a comment with #"

unfoldable pub help : Argument → List ℕ
help argument = line_in (argument_number argument) helps

-- a step's form: its name, and the names of its arguments
abbrev pub form_parts : ℕ → Form → List (List ℕ)
form_parts kind form = name_of kind ∷ slot form.chip ∷ slot form.channel ∷ slot form.value ∷ []

-- an argument, and the form of the step in which it stands
abbrev pub wanted_parts : ℕ → Argument → List (List ℕ)
wanted_parts kind argument =
    text "expected"
    ∷ slot argument
    ∷ help argument
    ∷ text ", as in: "
    ∷ joined (form_parts kind (form_of kind))
    ∷ []

-- what should have stood there
abbrev pub expected_parts : Expected → List (List ℕ)
expected_parts Shorter = text "expected a line of at most 1024 bytes" ∷ []
expected_parts TheStart =
    text "expected the first step of a list, start COUNT FILL: how many chips (decimal, 1 to 8) and the byte in the response memory at power-up (hex)" ∷ []
expected_parts AnEvent =
    text "expected an event: command, data, status, read, line, enable, fall or rise (start stands first and only there)" ∷ []
expected_parts (Wanted kind argument) = wanted_parts kind argument

-- the word that was found: at most 40 bytes of it, as they can be shown; where there is none, that
abbrev pub found_text : List ℕ → List ℕ
found_text found = cond (eqb (length found) 0) (text "(no word)") (cast Shown (take 40 found))

-- a byte order mark stands before it: EF BB BF, or FF FE or FE FF
abbrev pub has_mark : List ℕ → Bool
has_mark found = begins (0xEF ∷ 0xBB ∷ 0xBF ∷ []) found || begins (0xFF ∷ 0xFE ∷ []) found || begins (0xFE ∷ 0xFF ∷ []) found

-- it is written as some languages write hex
abbrev pub has0x : List ℕ → Bool
has0x found = begins (text "0x") found || begins (text "0X") found

-- what may help where a name should have stood
abbrev pub name_hint : List ℕ → List ℕ
name_hint found =
    cond (has_mark found) (text "; a byte order mark stands before it: save the list as plain text, without one")
    (cond (in_capitals found) (text "; names are written in small letters")
    [])

-- and where a number should have: for COUNT, FILL, CHIP, CODE, BYTE, CHANNEL and LEVEL, each in the line of its number; where the line should have ended, none
abbrev pub number_hints : List ℕ
number_hints =
    text "; write it in decimal, without 0x\n"
    ++ text "; write the digits alone, without 0x\n"
    ++ text "; write it in decimal, without 0x\n"
    ++ text "; write the digits alone, without 0x\n"
    ++ text "; write the digits alone, without 0x\n"
    ++ text "; write it in decimal, without 0x\n"
    ++ text "; write it in decimal, without 0x\n"

abbrev pub number_hint : Argument → List ℕ → List ℕ
number_hint argument found = cond (has0x found) (line_in (argument_number argument) number_hints) []

abbrev pub hint : Expected → List ℕ → List ℕ
hint Shorter found = []
hint TheStart found = name_hint found
hint AnEvent found = name_hint found
hint (Wanted kind argument) found = number_hint argument found

-- at L malformed: the word that was found there, and what was expected
abbrev pub malformed_parts : ℕ → Expected → List ℕ → List (List ℕ)
malformed_parts line expected found =
    field "at " line
    ∷ text " malformed: "
    ∷ found_text found
    ∷ text ", "
    ∷ joined (expected_parts expected)
    ∷ hint expected found
    ∷ text "\n"
    ∷ []

unfoldable pub malformed_line : ℕ → Expected → List ℕ → List ℕ
malformed_line line expected found = joined (malformed_parts line expected found)
