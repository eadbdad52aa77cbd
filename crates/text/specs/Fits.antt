-- A text for which there is room is written whole, at the start of the buffer, and the place handed back is the one behind it.
use Rattle.std.specs.Prelude.{List, ◌++◌, ◌≡◌, ℕ, ◌≤◌, length, drop}
use Rattle.text.specs.Written.{written}

pub record Fits : Type 0 where
  pub whole : (old new : List ℕ) → length new ≤ length old → written (old, 0) new ≡ (new ++ drop (length new) old, length new)
