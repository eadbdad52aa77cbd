-- The pieces of an image: their lengths, and how they are put one behind the other.
-- Assumes nothing.
use Rattle.std.specs.Prelude.{Some, None}
use mathlib.Core.List.{List, [], ◌∷◌, ◌++◌, map, append-nil, append_assoc}
use mathlib.Core.Path.{◌≡◌, refl, sym, ap, ap₂, subst, ◌∙◌}
use Prim.Native.Nat.{ℕ, zero, suc, ◌+◌, ◌-◌, ◌*◌, ◌<◌, suc-le-suc}
use native.Mathlib.Nat.{zero-lt-suc, not-suc-le-zero, le_of_suc-le-suc}
use native.Mathlib.Omega.{arith}
use native.Mathlib.Numerals.{add-one}
use lib.ListN.{length, get_or, take, drop, replicate, length-append, length-take, drop_of_length-le}
use lib.Seq.{take_at, take_all, drop-drop}
use borrow.Rule.Slice.PartMut.{put_mid}
use Rattle.std.specs.List.{range_with_len}
use Rattle.chip.proofs.Past.{no_chip}
use Rattle.chip.specs.Fields.{zero_chip}
use Rattle.chip.specs.declared.Chip.{Chip}
use Rattle.chip.specs.declared.Destination.{Destination}
use Rattle.chip.specs.declared.Destination.TheVariants.{Nowhere, Imr, Acr, Level}
use Rattle.chain.specs.declared.Chain.{Chain}
use Rattle.response.specs.Held.{Response}
use Rattle.image.specs.Layout.{destination_bytes, register_bytes, chip_record, response_bytes, head, records, image_of, over}
use Rattle.image.specs.Reading.{chip_in, chips_in}
use Rattle.image.specs.OneToOne.{WholeChip}
use Rattle.image.proofs.Lists.{over_next, part_over, length_over}

destination_eight : (d : Destination) → length (destination_bytes d ++ replicate 5 0) ≡ 8
destination_eight Nowhere = refl
destination_eight Imr = refl
destination_eight Acr = refl
destination_eight (Level level place) = refl

pub registers_sixteen : (c : Chip) → length (register_bytes c) ≡ 16
registers_sixteen c = ap (λ (n : ℕ). suc (suc (suc (suc (suc (suc (suc (suc n)))))))) (destination_eight c.destination)

response_eleven : (r : Response) → length (response_bytes r ++ replicate 5 0) ≡ 11
response_eleven None = refl
response_eleven (Some r) = refl

pub head_sixteen : (s : Chain) → length (head s) ≡ 16
unfolding head
head_sixteen s = ap (λ (n : ℕ). suc (suc (suc (suc (suc n))))) (response_eleven s.response)

pub record_length : (c : Chip) → WholeChip c → length (chip_record c) ≡ 64
unfolding chip_record
record_length c whole =
    let one = length-append (register_bytes c) c.counts in
    let two = length-append (register_bytes c ++ c.counts) (replicate 8 0) in
    let all = length-append (register_bytes c ++ c.counts ++ replicate 8 0) c.memory in
    omega (arith, one, two, all, registers_sixteen c, whole.eight_codes, whole.all_memory)

-- the four pieces of a chip record, written one behind the other
pub record_written : (r : List ℕ) (c : Chip) → length c.counts ≡ 8 → length c.memory ≡ 32 → length r ≡ 64 →
    over (over (over (over r 0 (register_bytes c)) 16 c.counts) 24 (replicate 8 0)) 32 c.memory ≡ chip_record c
unfolding chip_record
record_written r c eight all long =
    let a : List ℕ = register_bytes c in
    let one : length (a ++ c.counts) ≡ 24 = omega (arith, length-append a c.counts, registers_sixteen c, eight) in
    let two : length (a ++ c.counts ++ replicate 8 0) ≡ 32 = omega (arith, length-append (a ++ c.counts) (replicate 8 0), one) in
    ap (λ l. over (over (over l 16 c.counts) 24 (replicate 8 0)) 32 c.memory) (over_next [] r a 0 16 refl (omega (arith, registers_sixteen c)))
    ∙ ap (λ l. over (over l 24 (replicate 8 0)) 32 c.memory) (over_next a r c.counts 16 24 (registers_sixteen c) (omega (arith, eight)))
    ∙ ap (λ l. over l 32 c.memory) (over_next (a ++ c.counts) r (replicate 8 0) 24 32 one refl)
    ∙ over_next (a ++ c.counts ++ replicate 8 0) r c.memory 32 64 two (omega (arith, all))
    ∙ ap (λ rest. a ++ c.counts ++ replicate 8 0 ++ c.memory ++ rest) (drop_of_length-le r {i = 64} (omega (arith, long)))
    ∙ append-nil (a ++ c.counts ++ replicate 8 0 ++ c.memory)

-- so many chips
pub chips_length : (n : ℕ) (b : List ℕ) → length (chips_in n b) ≡ n
chips_length zero b = refl
chips_length (suc n) b = ap suc (chips_length n (drop 64 b))

-- one record more
records_more : (cs : List Chip) (i : ℕ) (d : Chip) → i < length cs → records (take (suc i) cs) ≡ records (take i cs) ++ chip_record (get_or cs i d)
records_more [] i d h = absurd (not-suc-le-zero h)
records_more (c ∷ cs) zero d h = append-nil (chip_record c)
records_more (c ∷ cs) (suc i) d h =
    ap (λ rest. chip_record c ++ rest) (records_more cs i d (le_of_suc-le-suc h)) ∙ sym (append_assoc (chip_record c) (records (take i cs)) (chip_record (get_or cs i d)))

-- An image written as far as the head and the first i chip records go:
pub record Written (b : List ℕ) (s : Chain) (i : ℕ) : Type 0 where
  pub long : length b ≡ 528
  pub so_far : take (16 + 64 * i) b ≡ head s ++ records (take i s.chips)

-- with the head,
pub written_head : (b : List ℕ) (s : Chain) → length b ≡ 528 → Written (over b 0 (head s)) s 0
written_head b s long =
    record {
      long = length_over b 0 (head s) (omega (arith, head_sixteen s, long)) ∙ long;
      so_far = take_at (head s) (drop (0 + length (head s)) b) 16 (head_sixteen s) ∙ sym (append-nil (head s));
    }

-- with one record more, which was lent and is back,
pub written_more : (b r : List ℕ) (s : Chain) (i : ℕ) → Written b s i → i < 8 → length s.chips ≡ 8 → length r ≡ 64 → r ≡ chip_record (get_or s.chips i no_chip) →
    Written (put_mid (16 + 64 * i) (16 + 64 * i + 64 - (16 + 64 * i)) b r) s (i + 1)
written_more b r s i written in8 eight full is =
    let at : ℕ = 16 + 64 * i in
    let back : put_mid at (at + 64 - at) b r ≡ over b at r = part_over b r at (at + 64) (omega arith) (omega (arith, full)) in
    let front : length (take at b ++ r) ≡ 16 + 64 * (i + 1) = omega (arith, length-append (take at b) r, length-take at b, full, written.long, in8) in
    record {
      long = ap length back ∙ length_over b at r (omega (arith, full, written.long, in8)) ∙ written.long;
      so_far =
          ap (take (16 + 64 * (i + 1))) back
          ∙ take_at (take at b ++ r) (drop (at + length r) b) (16 + 64 * (i + 1)) front
          ∙ ap₂ (λ l c. l ++ c) written.so_far is
          ∙ append_assoc (head s) (records (take i s.chips)) (chip_record (get_or s.chips i no_chip))
          ∙ ap (λ rest. head s ++ rest) (sym (records_more s.chips i no_chip (omega (arith, in8, eight))) ∙ ap (λ (n : ℕ). records (take n s.chips)) (sym (add-one i)));
    }

-- and with all eight
pub written_all : (b : List ℕ) (s : Chain) (i : ℕ) → Written b s i → i ≡ 8 → length s.chips ≡ 8 → b ≡ image_of s
unfolding image_of
written_all b s i written all eight =
    let at-end : take 528 b ≡ head s ++ records (take 8 s.chips) = subst (λ n. take (16 + 64 * n) b ≡ head s ++ records (take n s.chips)) all written.so_far in
    sym (take_all 528 b (omega (arith, written.long))) ∙ at-end ∙ ap (λ cs. head s ++ records cs) (take_all 8 s.chips (omega (arith, eight)))

-- the i-th of so many chips
pub chips_at : (n : ℕ) (b : List ℕ) (i : ℕ) (d : Chip) → i < n → get_or (chips_in n b) i d ≡ chip_in (drop (64 * i) b)
chips_at zero b i d h = absurd (not-suc-le-zero h)
chips_at (suc n) b zero d h = refl
chips_at (suc n) b (suc i) d h =
    let more : 64 + 64 * i ≡ 64 * suc i = omega arith in
    chips_at n (drop 64 b) i d (le_of_suc-le-suc h)
    ∙ ap chip_in (drop-drop (64 * i) 64 b ∙ ap (λ (m : ℕ). drop m b) more)

-- the chips of eight records, one by one
pub chips_map : (b : List ℕ) → map (λ i. chip_in (drop (16 + 64 * i) b)) (range_with_len 0 8) ≡ chips_in 8 (drop 16 b)
chips_map b = simp drop-drop

-- each record is 64 bytes
pub records-length : (cs : List Chip) → ((i : ℕ) → i < length cs → WholeChip (get_or cs i zero_chip)) → length (records cs) ≡ 64 * length cs
records-length [] whole = refl
records-length (c ∷ cs) whole =
    let others : length (records cs) ≡ 64 * length cs = records-length cs (λ i h. whole (suc i) (suc-le-suc h)) in
    omega (arith, length-append (chip_record c) (records cs), record_length c (whole 0 (zero-lt-suc (length cs))), others)
