-- The undefined codes as the paper lists them (the rules paper, "The eight events", 1): codes 01 to 0F hex, 1010xx11 binary, and D0 to DF hex. They are told
-- here apart from Figure 4. That they are just the codes in none of its rows is proved (`figure4/proofs/Figure4`: `undefined_codes`, `undefined_kind`), and
-- the table of numbers refuses them by this list (`demands/specs/Table`).
use Rattle.std.specs.Prelude.{Bool, ◌&&◌, ◌||◌, ℕ, ◌/◌, ◌%◌, eqb, leb}
use Rattle.figure4.specs.declared.Undefined.{Undefined}
use Rattle.figure4.specs.declared.Undefined.TheVariants.{Codes01To0F, Codes1010xx11, CodesD0ToDF}

-- the codes of each kind
abbrev pub is_of_kind : Undefined → ℕ → Bool
is_of_kind Codes01To0F code = leb 0x01 code && leb code 0x0F
is_of_kind Codes1010xx11 code = eqb (code / 16) 0b1010 && eqb (code % 4) 0b11
is_of_kind CodesD0ToDF code = leb 0xD0 code && leb code 0xDF

abbrev pub is_undefined : ℕ → Bool
is_undefined code = is_of_kind Codes01To0F code || is_of_kind Codes1010xx11 code || is_of_kind CodesD0ToDF code
