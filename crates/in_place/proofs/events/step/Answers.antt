-- `in_place::events::step` meets its contract.
use Rattle.std.proofs.lemmas.Result.{err_from_is_err_and}
use Rattle.std.specs.Prelude.{Err}
use mathlib.Core.Path.{ap, sym, ◌∙◌}
use Rattle.chain.specs.Events.{refused}
use Rattle.chain.specs.declared.Outcome.{Outcome}
use Rattle.image.specs.Reading.{chain_in}
use Rattle.in_place.proofs.Shown.{declines}
use Rattle.in_place.proofs.events.step.Goals as goal

pub returns-in_err-verdict-clause-value : goal.returns-in_err-verdict-clause-value
unfolding refused
returns-in_err-verdict-clause-value c =
    let handed_on = err_from_is_err_and c.from_residual.result c.from_residual.ensures.1 in
    let same = declines c.args.e (chain_in c.args.image.now) c.shown-seen.result _ c.shown-seen.ensures c.requires.chain_sound (sym c.verdict.ensures ∙ c.in_err-verdict.was) in
    handed_on.1 ∙ ap Err handed_on.2 ∙ ap (λ (o : Outcome). o.answer) (sym same)
