-- Whole lists, tried by computation.
-- Assumes nothing.
use Rattle.std.proofs.Common.{◌≡◌, [], ◌∷◌, ◌++◌, refl}
use Rattle.chain.specs.Start.{start_of}
use Rattle.messages.specs.Messages.{slot, help, malformed_line, refused_line}
use Rattle.report.specs.Report.{at_first, step_reply, line_reply, reply, closed, last_reply, pages_of}
use Rattle.steps.specs.Kinds.{name_of, kind_of, in_capitals}
use Rattle.refusal.specs.Sentences.{meaning_of}
use Rattle.steps.specs.Lines.{behind_argument, step_from, read_by, read_as, step_in, step_of, found_in}
use Rattle.steps.specs.Spelled.{spelled}
use Rattle.text.specs.Tables.{place_in}
use Rattle.text.specs.Words.{line_end, word_start, word_end, word, behind, decimal_in, hex_in}
use Rattle.text.specs.Written.{text, decimal, hex_byte}

-- an empty list lacks its start, on its first line; a comment and a blank line before, and it is on the third
nothing :
    (pages_of []
    ≡ text "at 1 malformed: (no word), expected the first step of a list, start COUNT FILL: how many chips (decimal, 1 to 8) and the byte in the response memory at power-up (hex)\n")
    × (pages_of (text "# no step\n \t\r\n")
    ≡ text "at 3 malformed: (no word), expected the first step of a list, start COUNT FILL: how many chips (decimal, 1 to 8) and the byte in the response memory at power-up (hex)\n")
unfolding pages_of at_first closed last_reply reply line_reply step_of step_in word_start word_end malformed_line in_capitals kind_of place_in line_end decimal
nothing = (refl, refl)

-- nine chips are refused, and a byte of three digits is none
stopped :
    (pages_of (text "start 9 0\nfall") ≡ text "at 1 start 9 00 refused 1: not a sound chain: a count of chips outside 1 to 8, or from C an image of another length or form or with a number out of range; start one of 1 to 8 chips\n")
    × (pages_of (text "start 1 A5F")
    ≡ text "at 1 malformed: A5F, expected FILL (the byte in the response memory at power-up, one or two hex digits), as in: start COUNT FILL\n")
unfolding pages_of at_first closed last_reply reply line_reply step_reply start_of step_of step_in read_as read_by step_from behind_argument name_of kind_of place_in line_end word behind word_start word_end decimal_in hex_in slot help malformed_line refused_line found_in spelled meaning_of decimal hex_byte
stopped = (refl, refl)

-- the word that was found, and what may help: 0x, capitals, a byte order mark; a word of 41 letters is shown without its last
hinted :
    (pages_of (text "start 0x1 00")
    ≡ text "at 1 malformed: 0x1, expected COUNT (how many chips, decimal, 1 to 8), as in: start COUNT FILL; write it in decimal, without 0x\n")
    × (pages_of (text "Start 1 00")
    ≡ text "at 1 malformed: Start, expected the first step of a list, start COUNT FILL: how many chips (decimal, 1 to 8) and the byte in the response memory at power-up (hex)"
    ++ text "; names are written in small letters\n")
    × (pages_of (0xEF ∷ 0xBB ∷ 0xBF ∷ text "start 1 00")
    ≡ text "at 1 malformed: ???start, expected the first step of a list, start COUNT FILL: how many chips (decimal, 1 to 8) and the byte in the response memory at power-up (hex)"
    ++ text "; a byte order mark stands before it: save the list as plain text, without one\n")
    × (pages_of (text "abcdefghijabcdefghijabcdefghijabcdefghij!")
    ≡ text "at 1 malformed: abcdefghijabcdefghijabcdefghijabcdefghij"
    ++ text ", expected the first step of a list, start COUNT FILL: how many chips (decimal, 1 to 8) and the byte in the response memory at power-up (hex)\n")
unfolding pages_of at_first closed last_reply reply line_reply step_reply start_of step_of step_in read_as read_by step_from behind_argument name_of kind_of in_capitals place_in line_end word behind word_start word_end decimal_in hex_in slot help malformed_line found_in decimal
hinted = (refl, refl, refl, refl)
