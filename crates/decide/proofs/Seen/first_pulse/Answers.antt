-- `decide::Seen::first_pulse` meets its contract.
use mathlib.Core.Path.{sym, ◌∙◌}
use lib.Dec.{lit<}
use Rattle.decide.specs.Pulse.{first_pulse}
use Rattle.decide.proofs.Soundness.{selected-sound}
use Rattle.decide.proofs.Seen.first_pulse.Goals as goal

pub answer-requires : goal.answer-requires
answer-requires c = let found = selected-sound c.args.self c.in-Some.reply c.requires (sym c.selected.ensures ∙ c.in-Some.is) in rw found.1 (lit< tt)
