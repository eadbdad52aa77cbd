-- `parts::apply::walked` meets its contract.
use borrow.Author.Rules.{rules}
use mathlib.Core.Path.{◌≡◌, ap, ◌∙◌}
use native.Mathlib.Omega.{arith}
use Rattle.response.specs.Held.{Response}
use Rattle.response.specs.Walk.{along}
use Rattle.chain.proofs.Along.{along_chain}
use Rattle.chain.specs.Fields.{chip_at}
use Rattle.chain.specs.declared.Chain.{Chain}
use Rattle.image.specs.Reading.{chain_in}
use Rattle.image.proofs.OneToOne.{image_length}
use Rattle.parts.proofs.apply.walked.Goals as goal

pub returns : goal.returns
unfolding chain_in
returns c =
    let s : Chain = chain_in c.args.image.now in
    c.along.ensures (chip_at s) (λ i chip h told. search rules)
    ∙ ap (λ (response : Response). along s.enable (chip_at s) response c.args.to) c.response_in-response.ensures
    ∙ along_chain s c.args.to
