-- What each number says to people: what was wrong, and what to do about it.
use Rattle.std.specs.Prelude.{cond, List, ◌++◌, ℕ, leb}
use Rattle.text.specs.Tables.{line_in}
use Rattle.text.specs.Written.{text}

-- the sentences, each in the line of its number, from 0; the last line is for a number that is none
abbrev pub sentences : List ℕ
sentences =
    text "accepted\n"
    ++ text "not a sound chain: a count of chips outside 1 to 8, or from C an image of another length or form or with a number out of range; start one of 1 to 8 chips\n"
    ++ text "no such chip: the first is 0 and the last is one below the count; name a chip of this chain\n"
    ++ text "no such channel: a chip has the channels 0 to 7; name one of these\n"
    ++ text "no such level: a pin is at 0 or at 1; give one of these\n"
    ++ text "IACK is low: no command, data, status or read during an acknowledge pulse; let IACK rise first\n"
    ++ text "IACK is at that level already: it starts high, and falls and rises take turns; leave this one out or put the other before it\n"
    ++ text "undefined command: 01 to 0F, A3, A7, AB, AF and D0 to DF are in no row of Figure 4; write another code\n"
    ++ text "no destination for data: the last accepted command, if any, chose none; first write B0 to BF for IMR, C0 to CF for ACR or E0 to FF for a level\n"
    ++ text "the level has all the bytes of its count; choose it again by E0 to FF, with a larger count if it needs more\n"
    ++ text "the length of the events is no multiple of four; lend four bytes for each event\n"
    ++ text "the buffer is too short; lend two bytes for each listed event of a run, 9 for a table of registers, 8 for a picture of pins\n"
    ++ text "no such kind of event; kinds are 1 to 8\n"
    ++ text "no number of a refusal: calls hand back 0 to 12, and the search a channel, 254 for a pointer above 7 or 255 for no candidate"

-- what a number says
unfoldable pub meaning_of : ℕ → List ℕ
meaning_of number = line_in (cond (leb number 12) number 13) sentences
