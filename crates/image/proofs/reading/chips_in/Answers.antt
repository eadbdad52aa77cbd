-- `image::reading::chips_in` meets its contract.
use Rattle.std.proofs.Common.{ℕ, List, ◌+◌, ◌*◌, ◌∙◌, ap, drop, rules, tests}
use denote.Ref.{Bor}
use Rattle.chip.specs.Fields.{zero_chip}
use Rattle.image.specs.Reading.{chip_in}
use Rattle.image.proofs.Made.{made_map}
use Rattle.image.proofs.Records.{chips_map}
use Rattle.image.proofs.reading.chips_in.Goals as goal

pub returns : goal.returns
returns c =
    let image : List ℕ = c.args.image.now in
    made_map _ _ (λ (i : ℕ). chip_in (drop (16 + 64 * i) image)) _ 8 zero_chip c.from_fn.ensures.items
    (λ i y q k. (ap (λ (r : Bor (List ℕ)). record { 0 = r }) k.met.1, search (rules, tests)))
    ∙ chips_map image
