-- The definitions tried, by computation.
-- Assumes nothing.
use mathlib.Core.List.{[], ◌∷◌}
use mathlib.Core.Path.{◌≡◌, refl}
use Rattle.text.specs.Words.{line_end, word_start, word_end, word, behind, decimal_in, hex_in}
use Rattle.text.specs.Written.{text, written, decimal, hex_byte}
use Rattle.std.specs.Prelude.{Some, None}

-- numbers written: no zeros in front, and all digits of the largest of 64 bits
numbers_written :
    (decimal 0 ≡ text "0")
    × (decimal 10 ≡ text "10")
    × (decimal 65535 ≡ text "65535")
    × (decimal 18446744073709551615 ≡ text "18446744073709551615")
    × (hex_byte 0x00 ≡ text "00")
    × (hex_byte 0x9A ≡ text "9A")
    × (hex_byte 0xF5 ≡ text "F5")
unfolding decimal hex_byte
numbers_written = (refl, refl, refl, refl, refl, refl, refl)

-- a text stored from a place on, and one that finds room for a byte only
stored_there : (written (1 ∷ 2 ∷ 3 ∷ [], 1) (text "A") ≡ (1 ∷ 65 ∷ 3 ∷ [], 2)) × (written (1 ∷ 2 ∷ 3 ∷ [], 2) (text "AB") ≡ (1 ∷ 2 ∷ 65 ∷ [], 3))
unfolding written
stored_there = (refl, refl)

-- the words of a line, up to a comment; and the first line of two
words_read :
    (word (text " line\t0 7#1") ≡ text "line")
    × (word (behind (behind (text " line\t0 7#1"))) ≡ text "7")
    × (word (behind (behind (behind (text " line\t0 7#1")))) ≡ [])
    × (line_end (text "fall\nrise\n") ≡ 4)
unfolding line_end word_start word_end word behind
words_read = (refl, refl, refl, refl)

-- numbers read
numbers_read :
    (decimal_in (text "255") ≡ Some 255)
    × (decimal_in (text "0007") ≡ Some 7)
    × (decimal_in (text "256") ≡ None)
    × (decimal_in (text "7F") ≡ None)
    × (decimal_in [] ≡ None)
    × (hex_in (text "a5") ≡ Some 0xA5)
    × (hex_in (text "F") ≡ Some 0x0F)
    × (hex_in (text "100") ≡ None)
    × (hex_in (text "G0") ≡ None)
unfolding decimal_in hex_in
numbers_read = (refl, refl, refl, refl, refl, refl, refl, refl, refl)
