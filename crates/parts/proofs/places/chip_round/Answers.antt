-- `parts::places::chip_round` meets its contract.
use mathlib.Core.List.{List}
use mathlib.Core.Path.{sym, ap, ◌∙◌}
use Prim.Native.Nat.{ℕ, ◌+◌, ◌-◌, ◌*◌, ◌%◌}
use native.Mathlib.Omega.{arith}
use lib.ListN.{length, drop, length-take, length-drop}
use lib.Seq.{take_all, drop-drop}
use Rattle.chip.specs.Fields.{zero_chip}
use Rattle.image.specs.Reading.{chip_in, chain_in}
use Rattle.image.proofs.OneToOne.{image_length}
use Rattle.image.proofs.Records.{chips_at}
use Rattle.parts.proofs.places.chip_round.Goals as goal

pub chip_in-requires : goal.chip_in-requires
chip_in-requires c =
    let at : ℕ = 16 + 64 * (c.args.i % 8) in
    let b : List ℕ = c.args.image.now in
    omega (arith, length-take (length b - at) (drop at b), length-drop at b, image_length b c.requires)

pub returns : goal.returns
unfolding chain_in
returns c =
    let k : ℕ = c.args.i % 8 in
    let at : ℕ = 16 + 64 * k in
    let b : List ℕ = c.args.image.now in
    c.chip_in.ensures
    ∙ ap chip_in (take_all (length b - at) (drop at b) (omega (arith, length-drop at b)) ∙ sym (drop-drop (64 * k) 16 b))
    ∙ sym (chips_at 8 (drop 16 b) k zero_chip (omega arith))
