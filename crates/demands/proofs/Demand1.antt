-- The first demand, from its parts.
-- Assumes nothing.
use Rattle.outcomes.proofs.Outcomes.{one_outcome, one_page, one_part, one_page_part}
use Rattle.demands.specs.Demand1.{Demand1}
use Rattle.demands.proofs.FromC.{from_c}
use Rattle.demands.proofs.Table.{by_the_table}
use Rattle.demands.proofs.Unchanged.{unchanged}

pub demand_1 : Demand1
demand_1 =
    record {
      one_outcome = one_outcome;
      one_page = one_page;
      one_part = one_part;
      one_page_part = one_page_part;
      by_the_table = by_the_table;
      unchanged = unchanged;
      from_c = from_c;
    }
