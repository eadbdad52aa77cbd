-- `am9519a::run_image` meets its contract.
use Rattle.std.specs.Prelude.{Ok}
use mathlib.Core.Path.{◌≡◌, refl, sym, ap, ◌∙◌}
use Rattle.run.specs.Run.{before_any}
use Rattle.am9519a.specs.Calls.{chain_of}
use Rattle.am9519a.proofs.Told.{run_ready}
use Rattle.am9519a.proofs.run_image.Goals as goal

pub run_in-reached-requires-clause-image_form : goal.run_in-reached-requires-clause-image_form
unfolding before_any
run_in-reached-requires-clause-image_form c =
    let is : c.before_any.result ≡ before_any (chain_of c.args.image.now) c.args.events.now c.args.results.now =
    c.before_any.ensures ∙ ap (λ s. before_any s c.args.events.now c.args.results.now) c.chain_of.ensures in
    (run_ready c.args.image.now c.args.events.now c.args.results.now (Ok tt) (sym c.in_ok-before_any.was ∙ is) refl).0
