-- What holds of every list, however its text comes: all that is printed is on the page, and a list prints what its lines do, one after the other.
use Rattle.std.specs.Prelude.{◌≡◌, ℕ, ◌<◌, ◌≤◌, cond, List, [], ◌∷◌, ◌++◌, length, take, drop}
use Rattle.report.specs.Report.{has_ended, reply, last_reply, lines_of, printed}
use Rattle.report.specs.declared.Report.{Report}
use Rattle.text.specs.Words.{line_end}
use Rattle.text.specs.Written.{written}

-- a page of 16,384 bytes has all of a text at its start, and its length is told
pub record OnThePage (print : List ℕ) : Type 0 where
  pub all_there : (page : List ℕ) → length page ≡ 16384 → written (page, 0) print ≡ (print ++ drop (length print) page, length print)

pub record EveryList : Type 0 where
  pub on_the_page : (line : List ℕ) (r : Report) → OnThePage (reply line r).print
  pub last_on_the_page : (line : List ℕ) (r : Report) → OnThePage (last_reply line r).print
  -- a line that has a line feed behind it: what it prints, and then, unless it ends the report, what the rest does
  pub line_by_line :
      (line rest : List ℕ) (r : Report)
      → line_end line ≡ length line
      → printed r (lines_of (line ++ (10 ∷ rest)))
      ≡ (reply line r).print ++ cond (has_ended (reply line r).course) [] (printed (reply line r).report (lines_of rest))
  -- the last line has none
  pub the_last_line : (line : List ℕ) (r : Report) → line_end line ≡ length line → printed r (lines_of line) ≡ (last_reply line r).print
  -- of a line that is too long, its first 1,025 bytes tell
  pub too_long : (line : List ℕ) (n : ℕ) (r : Report) → 1024 < n → n ≤ length line → reply (take n line) r ≡ reply line r
