-- Tables of names: a text whose lines are the names, counted from 0.
use Rattle.std.specs.Prelude.{cond, Option, Some, None, List, ℕ, zero, suc, ◌+◌, take, drop}
use Rattle.text.specs.Words.{line_end, same}

-- what stands behind the first line of a text and its line feed
abbrev pub behind_line : List ℕ → List ℕ
behind_line text = drop (line_end text + 1) text

-- line k of a text; nothing where the text has fewer lines
abbrev pub line_in : ℕ → List ℕ → List ℕ
line_in zero text = take (line_end text) text
line_in (suc k) text = line_in k (behind_line text)

-- of so many lines, from line k on, the first that a word is, if it is one of them
abbrev pub place_from : ℕ → ℕ → List ℕ → List ℕ → Option ℕ
place_from zero k table word = None
place_from (suc lines) k table word = cond (same word (line_in k table)) (Some k) (place_from lines (k + 1) table word)

-- of the first so many
unfoldable pub place_in : List ℕ → ℕ → List ℕ → Option ℕ
place_in table lines word = place_from lines 0 table word
