-- Where a line is cut.
-- Assumes nothing.
use mathlib.Core.Path.{◌≡◌}
use Prim.Native.Nat.{ℕ, ◌<◌}
use mathlib.Core.List.{List}
use borrow.Author.Tests.{lt-ltb}
use lib.ListN.{length, take}
use Rattle.steps.specs.Lines.{looked_at}

-- of a line that is too long
pub a_long_line : (line : List ℕ) → 1024 < length line → take (looked_at line) line ≡ take 1024 line
a_long_line line long = simp (lt-ltb _ _ long)
