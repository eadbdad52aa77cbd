-- `response::Walk::along` meets its contract. The loop's invariant: the walk has come to chip i.
use mathlib.Core.Path.{◌≡◌}
use Prim.Native.Nat.{ℕ, ◌-◌, ◌≤◌, ◌<◌}
use Rattle.chip.specs.declared.Chip.{Chip}
use Rattle.response.specs.Walk.{along}
use Rattle.response.proofs.Walk.along.Given as goal

abbrev pub invariant-loop-i : goal.invariant-loop-i
invariant-loop-i g l =
    goal.F-IsAlwaysCallable g l.chip_at
    × (l.i ≤ l.to)
    × (l.walk.at ≡ l.i)
    × ((chips : ℕ → Chip) → ((k : ℕ) (c : Chip) → k < l.to → goal.F-post g l.chip_at k c → c ≡ chips k) → l.walk ≡ along l.enable chips l.response l.i)

abbrev pub decreases-loop-i : goal.decreases-loop-i
decreases-loop-i g l = l.to - l.i
