-- The form of an image: bytes of the form are those that writing what was read gives again, and what was written is of the form.
-- Assumes nothing.
use Rattle.std.specs.Prelude.{Some, None}
use mathlib.Core.Bool.{Bool, true, false, ◌&&◌, ◌||◌, false≢true}
use mathlib.Core.List.{List, [], ◌∷◌, ◌++◌, append_assoc}
use mathlib.Core.Path.{◌≡◌, refl, sym, ap, ap₂, ◌∙◌}
use Prim.Native.Nat.{ℕ, zero, suc, ◌+◌, ◌*◌, ◌/◌, ◌%◌, ◌≤◌, ◌<◌, suc-le-suc}
use native.Mathlib.Nat.{zero-lt-suc, not-suc-le-zero, le_of_suc-le-suc}
use native.Mathlib.Omega.{arith}
use lib.Dec.{eqb, leb, ltb}
use lib.ListN.{length, get_or, take, drop, replicate, length-append, length-take, length-drop, take-append-drop}
use lib.Seq.{take_all, take-add, drop_at, drop-cons, drop-drop, drop-append-add}
use borrow.Author.Tests.{eqb-true, ne_eqb, leb-true, le-leb, lt-leb, ltb-true, lt-ltb}
use Rattle.bits.specs.Below.{digit}
use Rattle.bits.proofs.Below.{digit_lt, either, both_left, both_right}
use Rattle.chip.specs.Fields.{zero_chip}
use Rattle.chip.specs.declared.Chip.{Chip}
use Rattle.chip.specs.declared.Destination.{Destination}
use Rattle.chip.specs.declared.Destination.TheVariants.{Nowhere, Imr, Acr, Level}
use Rattle.response.specs.Held.{Response}
use Rattle.image.specs.Layout.{destination_bytes, register_bytes, chip_record, response_bytes, head, records}
use Rattle.image.specs.OneToOne.{WholeChip}
use Rattle.image.specs.Reading.{byte, destination_in, chip_in, chips_in, response_in, chain_in, is_zero, response_form, destination_form, head_form, record_form}
use Rattle.image.proofs.Lists.{zero_is}
use Rattle.image.proofs.Records.{registers_sixteen, record_length}

-- so many bytes from a place on, one by one
abbrev listed : ℕ → ℕ → List ℕ → List ℕ
listed at zero b = []
listed at (suc n) b = byte b at ∷ listed (suc at) n b

take-listed : (b : List ℕ) (at n : ℕ) → at + n ≤ length b → take n (drop at b) ≡ listed at n b
take-listed b at zero h = refl
take-listed b at (suc n) h =
    ap (take (suc n)) (drop-cons b at 0 (omega (arith, h)))
    ∙ ap (λ rest. byte b at ∷ rest) (take-listed b (suc at) n (omega (arith, h)))

-- a part that is all zero
zero_part : (b : List ℕ) (at n : ℕ) → at + n ≤ length b → is_zero (take n (drop at b)) ≡ true → take n (drop at b) ≡ replicate n 0
zero_part b at n h is =
    let long : length (take n (drop at b)) ≡ n = omega (arith, length-take n (drop at b), length-drop at b, h) in
    zero_is (take n (drop at b)) is ∙ ap (λ (m : ℕ). replicate m 0) long

zero_listed : (b : List ℕ) (at n : ℕ) → at + n ≤ length b → is_zero (take n (drop at b)) ≡ true → listed at n b ≡ replicate n 0
zero_listed b at n h is = sym (take-listed b at n h) ∙ zero_part b at n h is

-- one of two, and not the first
other : (a b : Bool) → a || b ≡ true → a ≡ false → b ≡ true
other true b h first = absurd (false≢true (sym first))
other false b h first = h

-- a level that was read, written again
level_again : (v : ℕ) → leb v 1 ≡ true → digit (eqb v 1) ≡ v
level_again zero h = refl
level_again (suc zero) h = refl
level_again (suc (suc v)) h =
    let low : suc (suc v) ≤ 1 = leb-true (suc (suc v)) 1 h in
    absurd (omega (arith, low))

response_again : (b : List ℕ) → 16 ≤ length b → response_form (take 6 (drop 5 b)) ≡ true → response_bytes (response_in b) ≡ listed 5 6 b
unfolding response_in
response_again b long is =
    let there : take 6 (drop 5 b) ≡ listed 5 6 b = take-listed b 5 6 (omega (arith, long)) in
    either (λ r. response_bytes r ≡ listed 5 6 b) (eqb (byte b 5) 1)
    (Some (record { chip = byte b 6; channel = byte b 7; level = byte b 8; length = byte b 9; delivered = byte b 10 })) None
    (λ one. ap (λ (v : ℕ). v ∷ byte b 6 ∷ byte b 7 ∷ byte b 8 ∷ byte b 9 ∷ byte b 10 ∷ []) (sym (eqb-true (byte b 5) 1 one)))
    (λ idle. sym (zero_is (listed 5 6 b) (other _ _ (ap response_form (sym there) ∙ is) idle)))

-- the head that was read, written again
pub head_again : (b : List ℕ) → 16 ≤ length b → head_form b ≡ true → head (chain_in b) ≡ take 16 b
unfolding head chain_in head_form
head_again b long is =
    let low : Bool = ltb (byte b 3) 256 in
    let enable : Bool = leb (byte b 1) 1 in
    let iack : Bool = leb (byte b 2) 1 in
    let response : Bool = response_form (take 6 (drop 5 b)) in
    let rest : Bool = is_zero (take 5 (drop 11 b)) in
    let four = both_left (low && enable && iack && response) rest is in
    let three = both_left (low && enable && iack) response four in
    let two = both_left (low && enable) iack three in
    let below : byte b 3 < 256 = ltb-true (byte b 3) 256 (both_left low enable two) in
    let low_byte : (byte b 3 + 256 * byte b 4) % 256 ≡ byte b 3 = omega (arith, below) in
    let high_byte : (byte b 3 + 256 * byte b 4) / 256 ≡ byte b 4 = omega (arith, below) in
    ap₂ (λ (e i : ℕ). byte b 0 ∷ e ∷ i ∷ (byte b 3 + 256 * byte b 4) % 256 ∷ (byte b 3 + 256 * byte b 4) / 256 ∷ response_bytes (response_in b) ++ replicate 5 0)
    (level_again (byte b 1) (both_right low enable two)) (level_again (byte b 2) (both_right (low && enable) iack three))
    ∙ ap₂ (λ (l h : ℕ). byte b 0 ∷ byte b 1 ∷ byte b 2 ∷ l ∷ h ∷ response_bytes (response_in b) ++ replicate 5 0) low_byte high_byte
    ∙ ap₂ (λ r z. byte b 0 ∷ byte b 1 ∷ byte b 2 ∷ byte b 3 ∷ byte b 4 ∷ r ++ z)
    (response_again b long (both_right (low && enable && iack) response four))
    (sym (zero_listed b 11 5 (omega (arith, long)) (both_right (low && enable && iack && response) rest is)))
    ∙ sym (take-listed b 0 16 (omega (arith, long)))

-- a destination that was read, written again; above 3 there is none
destination_again : (k l p : ℕ) → destination_form (k ∷ l ∷ p ∷ []) ≡ true → destination_bytes (destination_in k l p) ≡ k ∷ l ∷ p ∷ []
destination_again zero l p is = ap (λ rest. 0 ∷ rest) (sym (zero_is (l ∷ p ∷ []) is))
destination_again (suc zero) l p is = ap (λ rest. 1 ∷ rest) (sym (zero_is (l ∷ p ∷ []) is))
destination_again (suc (suc zero)) l p is = ap (λ rest. 2 ∷ rest) (sym (zero_is (l ∷ p ∷ []) is))
destination_again (suc (suc (suc zero))) l p is = refl
destination_again (suc (suc (suc (suc k)))) l p is =
    absurd (false≢true
    (sym (ap₂ (λ level low. level || low && is_zero (l ∷ p ∷ [])) (ne_eqb (suc (suc (suc (suc k)))) 3 (λ e. omega (arith, e))) (lt-leb (suc (suc (suc (suc k)))) _ (omega arith)))
    ∙ is))

-- a record that was read, written again
record_again : (r : List ℕ) → 64 ≤ length r → record_form r ≡ true → chip_record (chip_in r) ≡ take 64 r
unfolding chip_record chip_in record_form
record_again r long is =
    let kind : Bool = destination_form (take 3 (drop 8 r)) in
    let gap : Bool = is_zero (take 5 (drop 11 r)) in
    let behind : Bool = is_zero (take 8 (drop 24 r)) in
    let two = both_left (kind && gap) behind is in
    let registers : register_bytes (chip_in r) ≡ take 16 r =
    ap₂ (λ d z. byte r 0 ∷ byte r 1 ∷ byte r 2 ∷ byte r 3 ∷ byte r 4 ∷ byte r 5 ∷ byte r 6 ∷ byte r 7 ∷ d ++ z)
    (destination_again (byte r 8) (byte r 9) (byte r 10) (ap destination_form (sym (take-listed r 8 3 (omega (arith, long)))) ∙ both_left kind gap two))
    (sym (zero_listed r 11 5 (omega (arith, long)) (both_right kind gap two)))
    ∙ sym (take-listed r 0 16 (omega (arith, long))) in
    ap₂ (λ front zeros. front ++ take 8 (drop 16 r) ++ zeros ++ take 32 (drop 32 r)) registers
    (sym (zero_part r 24 8 (omega (arith, long)) (both_right (kind && gap) behind is)))
    ∙ ap (λ front. front ++ take 8 (drop 24 r) ++ take 32 (drop 32 r)) (sym (take-add 16 8 r))
    ∙ ap (λ front. front ++ take 32 (drop 32 r)) (sym (take-add 24 8 r))
    ∙ sym (take-add 32 32 r)

-- so many records that were read, written again
pub records_again : (n : ℕ) (b : List ℕ) → length b ≡ 64 * n → ((i : ℕ) → i < n → record_form (drop (64 * i) b) ≡ true) → records (chips_in n b) ≡ b
records_again zero b long each = take_all 0 b (omega (arith, long))
records_again (suc n) b long each =
    let more : (i : ℕ) → 64 + 64 * i ≡ 64 * suc i = λ i. omega arith in
    ap₂ (λ one others. one ++ others) (record_again b (omega (arith, long)) (each 0 (zero-lt-suc n)))
    (records_again n (drop 64 b) (omega (arith, length-drop 64 b, long))
    (λ i h. ap record_form (drop-drop (64 * i) 64 b ∙ ap (λ (m : ℕ). drop m b) (more i)) ∙ each (suc i) (suc-le-suc h)))
    ∙ take-append-drop 64 b

level_low : (high : Bool) → leb (digit high) 1 ≡ true
level_low high = le-leb (digit high) 1 (le_of_suc-le-suc (digit_lt high))

-- a head that was written is of the form
pub head_formed : (count : ℕ) (enable iack : Bool) (low high : ℕ) (r : Response) (rest : List ℕ) → low < 256 →
    head_form (count ∷ digit enable ∷ digit iack ∷ low ∷ high ∷ (response_bytes r ++ replicate 5 0) ++ rest) ≡ true
unfolding head_form
head_formed count enable iack low high None rest below = simp (level_low enable, level_low iack, lt-ltb low 256 below)
head_formed count enable iack low high (Some r) rest below = simp (level_low enable, level_low iack, lt-ltb low 256 below)

destination_formed : (d : Destination) (p q r t : List ℕ) →
    destination_form (take 3 (destination_bytes d ++ replicate 5 0 ++ p ++ q ++ r ++ t)) && is_zero (take 5 (drop 3 (destination_bytes d ++ replicate 5 0 ++ p ++ q ++ r ++ t)))
    ≡ true
destination_formed Nowhere p q r t = refl
destination_formed Imr p q r t = refl
destination_formed Acr p q r t = refl
destination_formed (Level level place) p q r t = refl

-- a record that was written is of the form
record_formed : (c : Chip) (rest : List ℕ) → WholeChip c → record_form (chip_record c ++ rest) ≡ true
unfolding record_form chip_record
record_formed c rest whole =
    let front : List ℕ = register_bytes c ++ c.counts in
    let long : length front ≡ 24 = omega (arith, length-append (register_bytes c) c.counts, registers_sixteen c, whole.eight_codes) in
    let behind : take 8 (drop 24 (front ++ replicate 8 0 ++ c.memory ++ rest)) ≡ replicate 8 0 =
    ap (λ l. take 8 (drop 24 l)) (append_assoc (front ++ replicate 8 0) c.memory rest ∙ append_assoc front (replicate 8 0) (c.memory ++ rest))
    ∙ ap (take 8) (drop_at front (replicate 8 0 ++ (c.memory ++ rest)) 24 long) in
    ap₂ (λ kind zeros. kind && is_zero zeros) (destination_formed c.destination c.counts (replicate 8 0) c.memory rest) behind

-- and so is each of those one behind the other
pub records_formed : (cs : List Chip) → ((i : ℕ) → i < length cs → WholeChip (get_or cs i zero_chip)) → (i : ℕ) → i < length cs → record_form (drop (64 * i) (records cs)) ≡ true
records_formed [] whole i h = absurd (not-suc-le-zero h)
records_formed (c ∷ cs) whole zero h = record_formed c (records cs) (whole 0 h)
records_formed (c ∷ cs) whole (suc i) h =
    let at : 64 * suc i ≡ length (chip_record c) + 64 * i = omega (arith, record_length c (whole 0 (zero-lt-suc (length cs)))) in
    ap record_form (ap (λ (n : ℕ). drop n (chip_record c ++ records cs)) at ∙ drop-append-add (chip_record c) (records cs) (64 * i))
    ∙ records_formed cs (λ k l. whole (suc k) (suc-le-suc l)) i (le_of_suc-le-suc h)
