-- `chain::Chain::walked` meets its contract.
use borrow.Author.Rules.{rules}
use mathlib.Core.Path.{◌∙◌}
use Rattle.chain.specs.Fields.{chip_at}
use Rattle.chain.proofs.Along.{along_chain}
use Rattle.chain.proofs.Chain.walked.Goals as goal

pub returns : goal.returns
returns c = c.along.ensures (chip_at c.args.self) (λ i chip h told. search rules) ∙ along_chain c.args.self c.args.to
