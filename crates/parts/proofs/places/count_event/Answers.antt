-- `parts::places::count_event` meets its contract.
use mathlib.Core.List.{List, [], ◌∷◌}
use mathlib.Core.Path.{◌≡◌, ap, ◌∙◌}
use Prim.Native.Nat.{ℕ, ◌%◌, ◌/◌}
use native.Mathlib.Omega.{arith}
use lib.ListN.{get_or, set, length-set}
use Rattle.event.specs.Counting.{next_number}
use Rattle.chain.specs.Apply.{counted}
use Rattle.image.specs.Reading.{chain_in, is_image}
use Rattle.image.proofs.OneToOne.{image_length}
use Rattle.parts.proofs.Parts.{event_set}
use Rattle.parts.proofs.places.count_event.Goals as goal

pub bounds-image-4-2 : goal.bounds-image-4-2
bounds-image-4-2 c = omega (arith, image_length c.args.image.now c.requires, length-set c.args.image.now 3 (get_or c.to_le_bytes-event.result 0 0))

pub returns : goal.returns
unfolding counted chain_in
returns c =
    let b : List ℕ = c.args.image.now in
    let event : ℕ = next_number (chain_in b).event in
    let high : event / 256 % 256 ≡ event / 256 = omega arith in
    let bytes : c.to_le_bytes-event.result ≡ event % 256 ∷ event / 256 ∷ [] =
    c.to_le_bytes-event.ensures
    ∙ ap (λ (n : ℕ). n % 256 ∷ n / 256 % 256 ∷ []) (c.next_number.ensures ∙ ap next_number c.event_of.ensures)
    ∙ ap (λ (n : ℕ). event % 256 ∷ n ∷ []) high in
    let written = ap (λ (e : List ℕ). set (set b 3 (get_or e 0 0)) 4 (get_or e 1 0)) bytes in
    let held = event_set b event c.requires in
    record {
      form_after = ap is_image written ∙ held.image;
      chain_after = ap chain_in written ∙ held.holds_it;
    }
