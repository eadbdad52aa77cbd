-- The lists that each condition of the third demand is there for, computed from the definitions.
-- Assumes nothing.
use native.Mathlib.Omega.{arith}
use Rattle.chain.proofs.Rules.{rules}
use Rattle.demands.specs.Along.{after, along}
use Rattle.demands.specs.Needed.{enable_low, behind_disarmed, behind_asking, in_service, four_bytes, disarmed, polled, fixed_priority, masked, not_latched, Needed}
use Rattle.demands.specs.Wait.{answers_it, answers_another, is_wait, reaches, is_counted}
use Rattle.demands.specs.Worked.{all_pending}

pub needed : Needed
unfolding rules all_pending enable_low behind_disarmed behind_asking in_service four_bytes disarmed polled fixed_priority masked not_latched is_wait answers_it answers_another reaches is_counted after along
needed = search arith
