-- `decide::Seen::change` meets its contract.
use Rattle.std.specs.Prelude.{Ok}
use mathlib.Core.Path.{◌≡◌, ap, sym, ◌∙◌}
use lib.Dec.{leb}
use Rattle.event.specs.Numbers.{in_numbers}
use Rattle.event.specs.declared.Event.{Event}
use Rattle.event.specs.declared.Event.TheVariants.{Fall}
use Rattle.decide.specs.Refusals.{verdict_on}
use Rattle.decide.specs.declared.Seen.{Seen}
use Rattle.decide.proofs.Passed.{passed_names, passed_fall}
use Rattle.decide.proofs.Soundness.{seen_chip}
use Rattle.decide.proofs.Seen.change.Goals as goal

pub data_write-requires : goal.data_write-requires
data_write-requires c = seen_chip _ c.requires.sound_seen (passed_names c.args.e c.args.self (ap (λ (e : Event). leb (in_numbers e).kind 5) c.in-Data.is) c.requires.accepted_event)
