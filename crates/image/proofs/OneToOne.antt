-- The image of a chain and the chain of an image: reading the one gives the other back, and so does writing.
-- Assumes nothing.
use mathlib.Core.Bool.{Bool, true, ◌&&◌}
use mathlib.Core.List.{List, ◌++◌}
use mathlib.Core.Path.{◌≡◌, sym, ap, ap₂, subst, ◌∙◌}
use Prim.Native.Nat.{ℕ, ◌+◌, ◌*◌, ◌/◌, ◌%◌, ◌≤◌, ◌<◌}
use native.Mathlib.Omega.{arith}
use lib.Dec.{eqb}
use lib.ListN.{length, drop, replicate, length-append, length-take, length-drop, take-append-drop}
use lib.Seq.{drop_at, drop-drop, drop-append-add}
use borrow.Author.Tests.{eqb-true, eq-eqb}
use Rattle.bits.specs.Below.{digit}
use Rattle.bits.proofs.Below.{both_left, both_right, every_each, every-all}
use Rattle.chip.specs.Fields.{zero_chip}
use Rattle.chip.specs.declared.Chip.{Chip}
use Rattle.chain.specs.declared.Chain.{Chain}
use Rattle.response.specs.Held.{Response}
use Rattle.image.specs.Layout.{head, records, image_of}
use Rattle.image.specs.OneToOne.{WholeChip, Whole, OneToOne}
use Rattle.image.specs.Reading.{chip_in, chips_in, response_in, chain_in, head_form, record_form, records_form, is_image}
use Rattle.image.proofs.Formed.{head_again, records_again, head_formed, records_formed}
use Rattle.image.proofs.Readback.{digit_back, response_back, chips_back}
use Rattle.image.proofs.Records.{head_sixteen, records-length, chips_at, chips_length}

-- an image has 528 bytes
pub image_length : (b : List ℕ) → is_image b ≡ true → length b ≡ 528
unfolding is_image
image_length b is = eqb-true (length b) 528 (both_left (eqb (length b) 528) (head_form b) (both_left (eqb (length b) 528 && head_form b) (records_form b) is))

-- writing what was read gives the same image
pub written_back : (b : List ℕ) → is_image b ≡ true → image_of (chain_in b) ≡ b
unfolding is_image records_form image_of chain_in
written_back b is =
    let long : length b ≡ 528 = image_length b is in
    let front : head_form b ≡ true = both_right (eqb (length b) 528) (head_form b) (both_left (eqb (length b) 528 && head_form b) (records_form b) is) in
    let each : records_form b ≡ true = both_right (eqb (length b) 528 && head_form b) (records_form b) is in
    ap₂ (λ before behind. before ++ behind) (head_again b (omega (arith, long)) front)
    (records_again 8 (drop 16 b) (omega (arith, length-drop 16 b, long))
    (λ i h. ap record_form (drop-drop (64 * i) 16 b) ∙ every_each 8 (λ k. record_form (drop (16 + 64 * k) b)) each i h))
    ∙ take-append-drop 16 b

-- reading the image of a chain gives that chain
pub read_back : (s : Chain) → Whole s → chain_in (image_of s) ≡ s
unfolding chain_in image_of head
read_back s whole =
    let b : List ℕ = image_of s in
    let with-these : List Chip → Bool → Bool → Response → ℕ → Chain =
    λ chips enable iack response event. record { count = s.count; chips = chips; enable = enable; iack = iack; response = response; event = event } in
    let chips : chips_in 8 (drop 16 b) ≡ s.chips =
    ap (chips_in 8) (drop_at (head s) (records s.chips) 16 (head_sixteen s))
    ∙ ap (λ (n : ℕ). chips_in n (records s.chips)) (sym whole.eight_chips)
    ∙ chips_back s.chips (λ i h. whole.whole_chips i (subst (λ n. i < n) whole.eight_chips h)) in
    let event : s.event % 256 + 256 * (s.event / 256) ≡ s.event = omega arith in
    ap (λ cs. with-these cs (eqb (digit s.enable) 1) (eqb (digit s.iack) 1) (response_in b) (s.event % 256 + 256 * (s.event / 256))) chips
    ∙ ap (λ level. with-these s.chips level (eqb (digit s.iack) 1) (response_in b) (s.event % 256 + 256 * (s.event / 256))) (digit_back s.enable)
    ∙ ap (λ level. with-these s.chips s.enable level (response_in b) (s.event % 256 + 256 * (s.event / 256))) (digit_back s.iack)
    ∙ ap (λ r. with-these s.chips s.enable s.iack r (s.event % 256 + 256 * (s.event / 256))) (response_back s.count (digit s.enable) (digit s.iack) (s.event % 256) (s.event / 256) s.response (replicate 5 0) (records s.chips))
    ∙ ap (with-these s.chips s.enable s.iack s.response) event

-- the image of a chain has 528 bytes
written-length : (s : Chain) → Whole s → length (image_of s) ≡ 528
unfolding image_of
written-length s whole =
    omega (arith, length-append (head s) (records s.chips), head_sixteen s, records-length s.chips (λ i h. whole.whole_chips i (subst (λ n. i < n) whole.eight_chips h)), whole.eight_chips)

-- and is one
pub of_the_layout : (s : Chain) → Whole s → is_image (image_of s) ≡ true
unfolding is_image records_form image_of head
of_the_layout s whole =
    let low : s.event % 256 < 256 = omega arith in
    let at : (i : ℕ) → 16 + 64 * i ≡ length (head s) + 64 * i = λ i. omega (arith, head_sixteen s) in
    let each : records_form (image_of s) ≡ true =
    every-all 8 (λ i. record_form (drop (16 + 64 * i) (image_of s)))
    (λ i h.
    ap record_form (ap (λ (n : ℕ). drop n (image_of s)) (at i) ∙ drop-append-add (head s) (records s.chips) (64 * i))
    ∙ records_formed s.chips (λ k l. whole.whole_chips k (subst (λ n. k < n) whole.eight_chips l)) i (omega (arith, h, whole.eight_chips))) in
    simp (eq-eqb (length (image_of s)) 528 (written-length s whole), head_formed s.count s.enable s.iack (s.event % 256) (s.event / 256) s.response (records s.chips) low, each)

-- what is read from a record that is all there is whole
whole_chip : (r : List ℕ) → 64 ≤ length r → WholeChip (chip_in r)
unfolding chip_in
whole_chip r long =
    record {
      eight_codes = omega (arith, length-take 8 (drop 16 r), length-drop 16 r, long);
      all_memory = omega (arith, length-take 32 (drop 32 r), length-drop 32 r, long);
    }

-- the chain of as many bytes as an image has is whole
pub read_whole : (b : List ℕ) → length b ≡ 528 → Whole (chain_in b)
unfolding chain_in
read_whole b long =
    record {
      eight_chips = chips_length 8 (drop 16 b);
      whole_chips =
          λ i h.
          subst WholeChip (sym (chips_at 8 (drop 16 b) i zero_chip h))
          (whole_chip (drop (64 * i) (drop 16 b)) (omega (arith, h, long, length-drop (64 * i) (drop 16 b), length-drop 16 b)));
    }

pub one_to_one : OneToOne
one_to_one =
    record {
      read_back = read_back;
      of_the_layout = of_the_layout;
      written_back = written_back;
      read_whole = λ b is. read_whole b (image_length b is);
    }
