-- `parts::places::chip_at` meets its contract.
use mathlib.Core.List.{List}
use mathlib.Core.Path.{sym, ap, ◌∙◌}
use Prim.Native.Nat.{ℕ, ◌+◌, ◌-◌, ◌*◌}
use native.Mathlib.Omega.{arith}
use lib.ListN.{length, drop, length-take, length-drop}
use lib.Seq.{take_all, drop-drop}
use Rattle.std.proofs.lemmas.List.{get_or_past}
use Rattle.chip.specs.Fields.{zero_chip}
use Rattle.image.specs.Reading.{chip_in, chips_in, chain_in}
use Rattle.image.proofs.OneToOne.{image_length}
use Rattle.image.proofs.Records.{chips_at, chips_length}
use Rattle.parts.proofs.places.chip_at.Goals as goal

pub returns-then-i-ge8 : goal.returns-then-i-ge8
unfolding chain_in
returns-then-i-ge8 c = c.zero.ensures ∙ sym (get_or_past (chips_in 8 (drop 16 c.args.image.now)) c.args.i zero_chip (omega (arith, chips_length 8 (drop 16 c.args.image.now), c.if-i-ge8.true)))
