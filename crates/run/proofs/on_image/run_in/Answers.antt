-- `run::on_image::run_in` meets its contract.
use mathlib.Core.Path.{◌≡◌, refl, sym, ap, ◌∙◌}
use native.Mathlib.Omega.{arith}
use Rattle.image.specs.Reading.{chain_in}
use Rattle.run.proofs.Before.{none_before, before_room, before-sound}
use Rattle.run.specs.Run.{run_from, before_any, run_of}
use Rattle.run.proofs.on_image.run_in.Goals as goal

pub perform_in-requires-clause-chain_sound : goal.perform_in-requires-clause-chain_sound
perform_in-requires-clause-chain_sound c = before-sound (chain_in c.args.image.now) c.args.bytes.now c.args.results.now c.requires.results_value

pub perform_in-requires-clause-room_in_bounds : goal.perform_in-requires-clause-room_in_bounds
perform_in-requires-clause-room_in_bounds c = omega (arith, c.min.ensures, before_room (chain_in c.args.image.now) c.args.bytes.now c.args.results.now c.requires.results_value)

pub returns-clause-results_after : goal.returns-clause-results_after
returns-clause-results_after c =
    c.perform_in.ensures.results_after
    ∙ ap (λ count. run_from count c.args.bytes.now 0 (chain_in c.args.image.now) c.args.results.now) c.min.ensures
    ∙ sym (none_before (chain_in c.args.image.now) c.args.bytes.now c.args.limit c.args.results.now (before_any (chain_in c.args.image.now) c.args.bytes.now c.args.results.now) refl c.requires.results_value)
