-- Text as bytes, and what a lent buffer holds after a text has been written into it.
use Rattle.std.specs.Prelude.{cond, List, ◌++◌, [] as none, ◌∷◌ as ◌then◌, ℕ, zero, suc, ◌+◌, ◌/◌, ◌%◌, eqb, ltb, length, set}
use Prim.Native.Char.{code}
use Prim.Native.String.{String, [], ◌∷◌}

-- the bytes of a text in quotes
abbrev pub text : String → List ℕ
text [] = none
text (c ∷ s) = code c then text s

-- a buffer, and the place of the next byte; a byte is stored there, unless the buffer is full
abbrev pub stored : List ℕ × ℕ → ℕ → List ℕ × ℕ
stored to b = cond (ltb to.1 (length to.0)) (set to.0 to.1 b, to.1 + 1) to

-- a text, byte after byte
unfoldable pub written : List ℕ × ℕ → List ℕ → List ℕ × ℕ
written to none = to
written to (b then bs) = written (stored to b) bs

-- the decimal digits of a number, 48 for 0, and none for the number zero; at most k of them
abbrev pub digits : ℕ → ℕ → List ℕ
digits zero n = none
digits (suc k) n = cond (eqb n 0) none (digits k (n / 10) ++ ((48 + n % 10) then none))

-- a number in decimal, without zeros in front: its last digit, and before it those that it has; nineteen and one are enough for 64 bits
unfoldable pub decimal : ℕ → List ℕ
decimal n = digits 19 (n / 10) ++ ((48 + n % 10) then none)

-- a hex digit, in upper case
abbrev pub hex_digit : ℕ → ℕ
hex_digit value = cond (ltb value 10) (48 + value) (55 + value)

-- a byte as two hex digits
unfoldable pub hex_byte : ℕ → List ℕ
hex_byte byte = hex_digit (byte / 16) then hex_digit (byte % 16) then none

-- parts, one behind the other
abbrev pub joined : List (List ℕ) → List ℕ
joined none = none
joined (part then parts) = part ++ joined parts

-- a name, and a number in decimal or a byte in hex
abbrev pub field : String → ℕ → List ℕ
field name n = text name ++ decimal n

abbrev pub byte_field : String → ℕ → List ℕ
byte_field name byte = text name ++ hex_byte byte
