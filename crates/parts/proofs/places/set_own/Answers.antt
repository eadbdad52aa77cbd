-- `parts::places::set_own` meets its contract.
use mathlib.Core.List.{List}
use mathlib.Core.Path.{◌≡◌, ap, ap₂, ◌∙◌}
use Prim.Native.Nat.{ℕ}
use native.Mathlib.Omega.{arith}
use lib.ListN.{set, length-set}
use borrow.Author.Rules.{rules}
use Rattle.bits.specs.Below.{digit}
use Rattle.image.specs.Layout.{response_bytes, over}
use Rattle.image.specs.Reading.{chain_in, is_image}
use Rattle.image.proofs.OneToOne.{image_length}
use Rattle.parts.proofs.Parts.{own_set}
use Rattle.parts.proofs.places.set_own.Goals as goal

pub returns : goal.returns
returns c =
    let b : List ℕ = c.args.image.now in
    let held = own_set b c.args.enable c.args.iack c.args.response c.requires in
    let put : c.put_bytes.new.to ≡ over b 5 (response_bytes c.args.response) = c.put_bytes.ensures ∙ ap (over b 5) c.response_bytes.ensures in
    let levels = ap₂ (λ (e i : ℕ). set (set c.put_bytes.new.to 1 e) 2 i) c.digit_of.ensures.value c.digit_of-2.ensures.value in
    let written = levels ∙ ap (λ (l : List ℕ). set (set l 1 (digit c.args.enable)) 2 (digit c.args.iack)) put in
    record {
      form_after = ap is_image written ∙ held.image;
      chain_after = ap chain_in written ∙ held.holds_it;
    }
