-- The second demand, from its parts.
-- Assumes nothing.
use Rattle.image.proofs.OneToOne as image
use Rattle.demands.specs.Demand2.{Demand2}
use Rattle.demands.proofs.Agree as agree
use Rattle.demands.proofs.Cases as cases
use Rattle.demands.proofs.Corners as corners
use Rattle.demands.proofs.FromC as calls
use Rattle.demands.proofs.Kept as kept
use Rattle.demands.proofs.Misread as misread
use Rattle.demands.proofs.Rules as rules
use Rattle.demands.proofs.Runs as runs

pub demand_2 : Demand2
demand_2 =
    record {
      bench = cases.bench;
      not_misread = misread.not_misread;
      cornered = corners.cornered;
      by_the_rules = rules.by_the_rules;
      kept = kept.events_keep;
      runs = runs.runs_keep;
      agreement = agree.agreement;
      one_to_one = image.one_to_one;
      as_the_model = calls.as_the_model;
    }
