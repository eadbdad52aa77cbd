-- A text with each of its bytes in another form.
use Rattle.std.specs.Prelude.{cond, ◌&&◌, List, [], ◌∷◌, ℕ, ◌+◌, leb}
use Rattle.text.specs.declared.Way.{Way}
use Rattle.text.specs.declared.Way.TheVariants.{Shown, Small}

-- shown: what is not printable, outside 32 to 126, as `?` (63); in small letters: each of the capitals `A` to `Z` (65 to 90) as the letter 32 above it
abbrev pub cast_byte : Way → ℕ → ℕ
cast_byte Shown c = cond (leb 32 c && leb c 126) c 63
cast_byte Small c = cond (leb 65 c && leb c 90) (c + 32) c

abbrev pub cast : Way → List ℕ → List ℕ
cast how [] = []
cast how (c ∷ cs) = cast_byte how c ∷ cast how cs
