-- The worked waits, computed from the definitions.
-- Assumes nothing.
use native.Mathlib.Omega.{arith}
use Rattle.demands.specs.Along.{after, along}
use Rattle.demands.specs.Wait.{answers_it, answers_another, is_wait, reaches, is_counted}
use Rattle.demands.specs.Worked.{all_pending, WorkedWait, third_of_three, BehindOthers, stalled, RefusedFalls}
use Rattle.chain.proofs.Rules.{rules}

pub worked : WorkedWait
unfolding rules all_pending is_wait answers_it answers_another reaches is_counted after along
worked = search arith

pub behind_others : BehindOthers
unfolding rules third_of_three is_wait answers_it answers_another reaches is_counted after along
behind_others = search arith

pub refused_falls : RefusedFalls
unfolding rules all_pending stalled is_wait answers_it reaches is_counted after along
refused_falls = search arith
