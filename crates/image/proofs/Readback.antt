-- Reading the pieces of an image gives what they were written from.
-- Assumes nothing.
use Rattle.std.specs.Prelude.{Some, None}
use mathlib.Core.Bool.{Bool, true, false}
use mathlib.Core.List.{List, [], ◌∷◌, ◌++◌, append_assoc}
use mathlib.Core.Path.{◌≡◌, refl, ap, ap₂, ◌∙◌}
use Prim.Native.Nat.{ℕ, suc, ◌<◌, suc-le-suc}
use native.Mathlib.Nat.{zero-lt-suc}
use native.Mathlib.Omega.{arith}
use lib.Dec.{eqb}
use lib.ListN.{length, get_or, take, drop, replicate, length-append}
use lib.Seq.{take_at, drop_at}
use Rattle.bits.specs.Below.{digit}
use Rattle.chip.specs.Fields.{zero_chip}
use Rattle.chip.specs.declared.Chip.{Chip}
use Rattle.chip.specs.declared.Destination.{Destination}
use Rattle.chip.specs.declared.Destination.TheVariants.{Nowhere, Imr, Acr, Level}
use Rattle.response.specs.Held.{Response}
use Rattle.image.specs.Layout.{destination_bytes, register_bytes, chip_record, response_bytes, records}
use Rattle.image.specs.OneToOne.{WholeChip}
use Rattle.image.specs.Reading.{byte, destination_in, chip_in, chips_in, response_in}
use Rattle.image.proofs.Records.{registers_sixteen, record_length}

-- a level as a digit, and back
pub digit_back : (b : Bool) → eqb (digit b) 1 ≡ b
digit_back true = refl
digit_back false = refl

destination_back : (d : Destination) (p q r t u : List ℕ) →
    destination_in (byte (destination_bytes d ++ p ++ q ++ r ++ t ++ u) 0) (byte (destination_bytes d ++ p ++ q ++ r ++ t ++ u) 1) (byte (destination_bytes d ++ p ++ q ++ r ++ t ++ u) 2) ≡ d
destination_back Nowhere p q r t u = refl
destination_back Imr p q r t u = refl
destination_back Acr p q r t u = refl
destination_back (Level level place) p q r t u = refl

-- a response of an image whose head begins with these five bytes
pub response_back : (a b c d e : ℕ) (r : Response) (p q : List ℕ) → response_in (a ∷ b ∷ c ∷ d ∷ e ∷ (response_bytes r ++ p) ++ q) ≡ r
unfolding response_in
response_back a b c d e None p q = refl
response_back a b c d e (Some r) p q = refl

counts_back : (c : Chip) (rest : List ℕ) → WholeChip c → take 8 (drop 16 (chip_record c ++ rest)) ≡ c.counts
unfolding chip_record
counts_back c rest whole =
    let a : List ℕ = register_bytes c in
    let behind : List ℕ = replicate 8 0 ++ (c.memory ++ rest) in
    let split : a ++ c.counts ++ replicate 8 0 ++ c.memory ++ rest ≡ a ++ (c.counts ++ behind) =
    append_assoc (a ++ c.counts ++ replicate 8 0) c.memory rest
    ∙ append_assoc (a ++ c.counts) (replicate 8 0) (c.memory ++ rest)
    ∙ append_assoc a c.counts behind in
    ap (λ l. take 8 (drop 16 l)) split
    ∙ ap (take 8) (drop_at a (c.counts ++ behind) 16 (registers_sixteen c))
    ∙ take_at c.counts behind 8 whole.eight_codes

memory_back : (c : Chip) (rest : List ℕ) → WholeChip c → take 32 (drop 32 (chip_record c ++ rest)) ≡ c.memory
unfolding chip_record
memory_back c rest whole =
    let front : List ℕ = register_bytes c ++ c.counts ++ replicate 8 0 in
    let long : length front ≡ 32 = omega (arith, length-append (register_bytes c ++ c.counts) (replicate 8 0), length-append (register_bytes c) c.counts, registers_sixteen c, whole.eight_codes) in
    ap (λ l. take 32 (drop 32 l)) (append_assoc front c.memory rest)
    ∙ ap (take 32) (drop_at front (c.memory ++ rest) 32 long)
    ∙ take_at c.memory rest 32 whole.all_memory

chip_back : (c : Chip) (rest : List ℕ) → WholeChip c → chip_in (chip_record c ++ rest) ≡ c
unfolding chip_in chip_record
chip_back c rest whole =
    let with-these : List ℕ → List ℕ → Destination → Chip =
    λ memory counts destination. record {
      irr = c.irr;
      isr = c.isr;
      imr = c.imr;
      acr = c.acr;
      mode = c.mode;
      command = c.command;
      memory = memory;
      counts = counts;
      lines = c.lines;
      pointer = c.pointer;
      destination = destination;
    } in
    ap (λ memory. with-these memory (chip_in (chip_record c ++ rest)).counts (chip_in (chip_record c ++ rest)).destination) (memory_back c rest whole)
    ∙ ap (λ counts. with-these c.memory counts (chip_in (chip_record c ++ rest)).destination) (counts_back c rest whole)
    ∙ ap (with-these c.memory c.counts) (destination_back c.destination (replicate 5 0) c.counts (replicate 8 0) c.memory rest)

-- so many records, and the chips in them
pub chips_back : (cs : List Chip) → ((i : ℕ) → i < length cs → WholeChip (get_or cs i zero_chip)) → chips_in (length cs) (records cs) ≡ cs
chips_back [] whole = refl
chips_back (c ∷ cs) whole =
    ap₂ (λ chip chips. chip ∷ chips) (chip_back c (records cs) (whole 0 (zero-lt-suc (length cs))))
    (ap (chips_in (length cs)) (drop_at (chip_record c) (records cs) 64 (record_length c (whole 0 (zero-lt-suc (length cs)))))
    ∙ chips_back cs (λ i h. whole (suc i) (suc-le-suc h)))
