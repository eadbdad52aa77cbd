-- Lines tried, by computation: which word is told, for every place at which an argument or the end may stand.
-- Assumes nothing.
use mathlib.Core.Bool.{true, false}
use mathlib.Core.Path.{◌≡◌, refl}
use Rattle.text.specs.Tables.{place_in}
use Rattle.text.specs.Words.{line_end, word_start, word_end, word, behind, decimal_in, hex_in}
use Rattle.text.specs.Written.{text}
use Rattle.steps.specs.Kinds.{kind_of, in_capitals}
use Rattle.steps.specs.Lines.{behind_argument, step_from, read_by, read_as, step_in, step_of, found_in}
use Rattle.steps.specs.declared.Argument.TheVariants.{Count, Fill, Chip, Code, Channel, Level, End}
use Rattle.steps.specs.declared.Expected.TheVariants.{AnEvent, Wanted}
use Rattle.steps.specs.declared.Step.TheVariants.{Malformed}

places :
    (step_of false (text "start x 00") ≡ Malformed (Wanted 0 Count) 1)
    × (step_of false (text "start 1 x") ≡ Malformed (Wanted 0 Fill) 2)
    × (step_of true (text "line x 1 1") ≡ Malformed (Wanted 5 Chip) 1)
    × (step_of true (text "line 0 x 1") ≡ Malformed (Wanted 5 Channel) 2)
    × (step_of true (text "line 0 1 x") ≡ Malformed (Wanted 5 Level) 3)
    × (step_of true (text "command 0 x") ≡ Malformed (Wanted 1 Code) 2)
    × (step_of true (text "enable x") ≡ Malformed (Wanted 6 Level) 1)
    × (step_of true (text "x 0") ≡ Malformed AnEvent 0)
unfolding step_of step_in read_as read_by step_from behind_argument kind_of place_in line_end word behind word_start word_end decimal_in hex_in
places = (refl, refl, refl, refl, refl, refl, refl, refl)

-- a word too many
ends :
    (step_of true (text "fall x") ≡ Malformed (Wanted 7 End) 1)
    × (step_of true (text "status 0 x") ≡ Malformed (Wanted 3 End) 2)
    × (step_of true (text "data 0 1 x") ≡ Malformed (Wanted 2 End) 3)
    × (step_of true (text "line 0 1 1 x") ≡ Malformed (Wanted 5 End) 4)
unfolding step_of step_in read_as read_by step_from behind_argument kind_of place_in line_end word behind word_start word_end decimal_in hex_in
ends = (refl, refl, refl, refl)

-- and the words at these places, without the carriage return at the end of the line
found : (found_in 0 (text " x 0") ≡ text "x") × (found_in 2 (text "start 1 x#y") ≡ text "x") × (found_in 4 (text "line 0 1 1 x\r") ≡ text "x")
unfolding found_in word behind word_start word_end
found = (refl, refl, refl)

-- a name in capitals is one in small letters, and none as it stands
capitals : (in_capitals (text "COMMAND") ≡ true) × (in_capitals (text "Fall") ≡ true) × (in_capitals (text "fall") ≡ false) × (in_capitals (text "COMMANDS") ≡ false)
unfolding in_capitals kind_of place_in line_end
capitals = (refl, refl, refl, refl)
