-- `run::on_image::perform_in` meets its contract.
use mathlib.Core.Bool.{true}
use mathlib.Core.Path.{◌≡◌}
use Prim.Native.Nat.{◌-◌, ◌≤◌}
use lib.ListN.{length}
use Rattle.chain.specs.Sound.{sound}
use Rattle.image.specs.Reading.{chain_in, is_image}
use Rattle.run.specs.Run.{run_from}
use Rattle.run.proofs.on_image.perform_in.Given as goal

abbrev pub invariant-loop-n : goal.invariant-loop-n
invariant-loop-n l = (l.n ≤ l.count) × (is_image l.image ≡ true) × (sound (chain_in l.image) ≡ true) × (length l.results ≡ length l.initial.results) × (run_from l.count l.bytes 0 (chain_in l.initial.image) l.initial.results ≡ run_from (l.count - l.n) l.bytes l.n (chain_in l.image) l.results)

abbrev pub decreases-loop-n : goal.decreases-loop-n
decreases-loop-n l = l.count - l.n
