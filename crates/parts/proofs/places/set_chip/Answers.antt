-- `parts::places::set_chip` meets its contract.
use borrow.Author.Rules.{rules}
use mathlib.Core.List.{List}
use mathlib.Core.Path.{◌≡◌, ap, ◌∙◌}
use Prim.Native.Nat.{ℕ, ◌+◌, ◌-◌, ◌*◌, ◌%◌}
use native.Mathlib.Omega.{arith}
use borrow.Rule.Slice.PartMut.{put_mid}
use Rattle.chain.specs.Fields.{with_chip}
use Rattle.image.specs.Layout.{chip_record, over}
use Rattle.image.specs.OneToOne.{WholeChip}
use Rattle.image.specs.Reading.{chain_in, is_image}
use Rattle.image.proofs.Lists.{part_over}
use Rattle.image.proofs.OneToOne.{image_length}
use Rattle.image.proofs.Records.{record_length}
use Rattle.parts.proofs.Parts.{chip_set}
use Rattle.parts.proofs.places.set_chip.Goals as goal

pub returns : goal.returns
returns c =
    let whole : WholeChip c.args.chip = record { eight_codes = search rules; all_memory = search rules } in
    let k : ℕ = c.args.i % 8 in
    let within : k ≡ c.args.i = omega (arith, c.requires.i_bound) in
    let at : ℕ = 16 + 64 * k in
    let b : List ℕ = c.args.image.now in
    let written : put_mid at (at + 64 - at) b c.put_chip.new.r ≡ over b at (chip_record c.args.chip) =
    ap (put_mid at (at + 64 - at) b) c.put_chip.ensures
    ∙ part_over b (chip_record c.args.chip) at (at + 64) (omega arith) (omega (arith, record_length c.args.chip whole)) in
    let held = chip_set b k c.args.chip c.requires.image_form whole (omega arith) in
    record {
      form_after = ap is_image written ∙ held.image;
      chain_after = ap chain_in written ∙ held.holds_it ∙ ap (λ (n : ℕ). with_chip n c.args.chip (chain_in b)) within;
    }
