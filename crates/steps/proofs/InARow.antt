-- Texts written one after the other are one text.
-- Assumes nothing.
use mathlib.Core.List.{List, ◌++◌}
use mathlib.Core.Path.{◌≡◌, sym}
use Prim.Native.Nat.{ℕ}
use Rattle.std.proofs.lemmas.List.{append-nil}
use Rattle.text.specs.Written.{written}
use Rattle.text.proofs.Written.{written-append}

pub together : (to : List ℕ × ℕ) (x y : List ℕ) → written (written to x) y ≡ written to (x ++ y)
together to x y = sym (written-append to x y)

pub ruleset in_a_row = (together, append-nil)
