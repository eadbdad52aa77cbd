-- The lines of a text, the words of a line, and the numbers that words say.
use Rattle.std.specs.Prelude.{Bool, true, false, cond, ◌&&◌, ◌||◌, not, Option, Some, None, List, [], ◌∷◌, ℕ, zero, suc, ◌+◌, ◌-◌, ◌*◌, leb, eqb, length, take, drop}

-- blanks are the space and the tab
abbrev pub is_blank : ℕ → Bool
is_blank c = eqb c 32 || eqb c 9

-- any other byte stands in a word, but for `#`, with which a comment begins
abbrev pub is_letter : ℕ → Bool
is_letter c = not (is_blank c || eqb c 35)

-- and any byte stands inside a line, but for the line feed (10)
abbrev pub is_inside : ℕ → Bool
is_inside c = not (eqb c 10)

-- how many bytes at the start of a text pass a test
abbrev pub lead : (ℕ → Bool) → List ℕ → ℕ
lead passes [] = 0
lead passes (c ∷ cs) = cond (passes c) (suc (lead passes cs)) 0

-- where the first line of a text ends
unfoldable pub line_end : List ℕ → ℕ
line_end text = lead is_inside text

-- where the first word of a line begins, and where it ends; both at one place if there is no word
unfoldable pub word_start : List ℕ → ℕ
word_start line = lead is_blank line

unfoldable pub word_end : List ℕ → ℕ
word_end line = word_start line + lead is_letter (drop (word_start line) line)

-- the first word, and the rest of the line behind it
unfoldable pub word : List ℕ → List ℕ
word line = take (word_end line - word_start line) (drop (word_start line) line)

unfoldable pub behind : List ℕ → List ℕ
behind line = drop (word_end line) line

-- word k of a line, counted from 0; nothing where the line has fewer
abbrev pub word_at : ℕ → List ℕ → List ℕ
word_at zero line = word line
word_at (suc k) line = word_at k (behind line)

-- whether two texts are the same
abbrev pub same : List ℕ → List ℕ → Bool
same [] [] = true
same [] (d ∷ ds) = false
same (c ∷ cs) [] = false
same (c ∷ cs) (d ∷ ds) = eqb c d && same cs ds

-- whether a text begins with another
abbrev pub begins : List ℕ → List ℕ → Bool
begins beginning text = same (take (length beginning) text) beginning

-- whether a byte is a digit
abbrev pub is_digit : ℕ → Bool
is_digit c = leb 48 c && leb c 57

-- decimal: a digit behind others makes ten of their value and adds its own; a byte that is no digit, and a value above 255, make it no number
abbrev pub decimal_from : ℕ → List ℕ → Option ℕ
decimal_from value [] = cond (leb value 255) (Some value) None
decimal_from value (c ∷ cs) = cond (is_digit c) (decimal_from (10 * value + (c - 48)) cs) None

unfoldable pub decimal_in : List ℕ → Option ℕ
decimal_in [] = None
decimal_in (c ∷ cs) = decimal_from 0 (c ∷ cs)

-- the value of a hex digit in either case
abbrev pub hex_value : ℕ → Option ℕ
hex_value c =
    cond (is_digit c) (Some (c - 48)) (cond (leb 65 c && leb c 70) (Some (c - 55)) (cond (leb 97 c && leb c 102) (Some (c - 87)) None))

-- the value of two digits, if each is one
abbrev pub together : Option ℕ → Option ℕ → Option ℕ
together (Some high) (Some low) = Some (16 * high + low)
together (Some high) None = None
together None low = None

abbrev pub two_digits : ℕ → ℕ → Option ℕ
two_digits high low = together (hex_value high) (hex_value low)

-- hex: two digits, or one, as if `0` (48) stood before it
unfoldable pub hex_in : List ℕ → Option ℕ
hex_in [] = None
hex_in (c ∷ []) = two_digits 48 c
hex_in (c ∷ d ∷ []) = two_digits c d
hex_in (c ∷ d ∷ e ∷ more) = None
