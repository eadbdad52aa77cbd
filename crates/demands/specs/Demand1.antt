-- The first demand: no input of a call is without its defined result, what is wrong gets its number, and a refusal changes nothing.
use Rattle.outcomes.specs.Outcomes.{OneOutcome}
use Rattle.outcomes.specs.PageParts.{OnePagePart}
use Rattle.outcomes.specs.Pages.{OnePage}
use Rattle.outcomes.specs.Parts.{OnePart}
use Rattle.demands.specs.FromC.{FromC}
use Rattle.demands.specs.Table.{ByTheTable}
use Rattle.demands.specs.Unchanged.{Unchanged}

pub record Demand1 : Type 0 where
  -- every call takes every input, and one outcome satisfies its promise: the one that the definitions give
  pub one_outcome : OneOutcome
  pub one_page : OnePage
  -- so do the parts of which they are made, where they ask for nothing
  pub one_part : OnePart
  pub one_page_part : OnePagePart
  -- its refusal is the first of the table that applies
  pub by_the_table : ByTheTable
  -- a refusal leaves the chain and every lent byte as they were; of a run that is refused at an event, what it accepted before stays. (A report prints its
  -- refusal onto the lent page: that is its answer)
  pub unchanged : Unchanged
  -- the calls from C go by the same table, and a refused one leaves every lent buffer as it was; of a run that holds where no event is what it refuses
  pub from_c : FromC
