-- `decide::Seen::fall` meets its contract.
use native.Mathlib.Omega.{arith}
use Rattle.decide.specs.Decided.{decided}
use Rattle.decide.specs.Pulse.{fallen}
use Rattle.decide.proofs.Soundness.{under_way_parts, next_left}
use Rattle.decide.proofs.Seen.fall.Goals as goal

pub driving-requires : goal.driving-requires
driving-requires c = let left = next_left c.args.self c.in-Some.reply c.requires.sound_seen c.requires.iack_high c.in-Some.is in let most = (under_way_parts c.args.self c.in-Some.reply c.requires.sound_seen c.in-Some.is).at_most_four in omega (arith, left, most)
