-- An image with one part replaced is the image of the chain with that part replaced.
-- Assumes nothing.
use Rattle.std.specs.Prelude.{Some, None}
use mathlib.Core.Bool.{Bool, true}
use mathlib.Core.List.{List, [], ◌∷◌, ◌++◌, append_assoc}
use mathlib.Core.Path.{◌≡◌, refl, sym, ap, ap₂, subst, ◌∙◌}
use Prim.Native.Nat.{ℕ, zero, suc, ◌+◌, ◌*◌, ◌/◌, ◌%◌, ◌<◌, suc-le-suc}
use native.Mathlib.Nat.{zero-lt-suc, not-suc-le-zero, le_of_suc-le-suc}
use native.Mathlib.Omega.{arith}
use lib.ListN.{length, get_or, set, take, drop, replicate}
use lib.Seq.{drop_at, take-append-add, drop-append-add}
use Rattle.bits.specs.Below.{digit}
use Rattle.chip.specs.Fields.{zero_chip}
use Rattle.chip.specs.declared.Chip.{Chip}
use Rattle.chain.specs.Fields.{with_chips, with_chip, with_own, with_event}
use Rattle.chain.specs.declared.Chain.{Chain}
use Rattle.response.specs.Held.{Response}
use Rattle.image.specs.Layout.{chip_record, response_bytes, head, records, image_of, over}
use Rattle.image.specs.OneToOne.{WholeChip, Whole}
use Rattle.image.specs.Reading.{chain_in, is_image}
use Rattle.image.proofs.OneToOne.{image_length, written_back, read_back, of_the_layout, read_whole}
use Rattle.image.proofs.Records.{head_sixteen, record_length}
use Rattle.image.proofs.Whole.{same_chips, whole_with}

-- bytes that hold a chain: they are an image, and the chain is in it
pub record Holds (b : List ℕ) (s : Chain) : Type 0 where
  pub image : is_image b ≡ true
  pub holds_it : chain_in b ≡ s

pub holds : (b : List ℕ) (s : Chain) → Whole s → b ≡ image_of s → Holds b s
holds b s whole is =
    record { image = ap is_image is ∙ of_the_layout s whole; holds_it = ap chain_in is ∙ read_back s whole }

-- written over behind a front
over_behind : (p l new : List ℕ) (n : ℕ) → over (p ++ l) (length p + n) new ≡ p ++ over l n new
over_behind p l new n =
    let ends : length p + n + length new ≡ length p + (n + length new) = omega arith in
    ap₂ (λ before behind. before ++ new ++ behind) (take-append-add p l n) (ap (λ (m : ℕ). drop m (p ++ l)) ends ∙ drop-append-add p l (n + length new))
    ∙ ap (λ front. front ++ drop (n + length new) l) (append_assoc p (take n l) new)
    ∙ append_assoc p (take n l ++ new) (drop (n + length new) l)

-- a record written over the i-th is the record of the chip that replaces the i-th
record_over : (cs : List Chip) (i : ℕ) (c : Chip) → WholeChip c → ((k : ℕ) → k < length cs → WholeChip (get_or cs k zero_chip)) → i < length cs →
    over (records cs) (64 * i) (chip_record c) ≡ records (set cs i c)
record_over [] i c whole each h = absurd (not-suc-le-zero h)
record_over (x ∷ cs) zero c whole each h =
    let old : length (chip_record x) ≡ 64 = record_length x (each 0 (zero-lt-suc (length cs))) in
    let new : 0 + length (chip_record c) ≡ 64 = omega (arith, record_length c whole) in
    ap (λ (n : ℕ). chip_record c ++ drop n (chip_record x ++ records cs)) new
    ∙ ap (λ rest. chip_record c ++ rest) (drop_at (chip_record x) (records cs) 64 old)
record_over (x ∷ cs) (suc i) c whole each h =
    let at : 64 * suc i ≡ length (chip_record x) + 64 * i = omega (arith, record_length x (each 0 (zero-lt-suc (length cs)))) in
    ap (λ (n : ℕ). over (chip_record x ++ records cs) n (chip_record c)) at
    ∙ over_behind (chip_record x) (records cs) (chip_record c) (64 * i)
    ∙ ap (λ rest. chip_record x ++ rest) (record_over cs i c whole (λ k l. each (suc k) (suc-le-suc l)) (le_of_suc-le-suc h))

pub chip_set : (b : List ℕ) (i : ℕ) (c : Chip) → is_image b ≡ true → WholeChip c → i < 8 → Holds (over b (16 + 64 * i) (chip_record c)) (with_chip i c (chain_in b))
unfolding image_of head with_chip with_chips
chip_set b i c is new h =
    let s : Chain = chain_in b in
    let whole : Whole s = read_whole b (image_length b is) in
    let at : 16 + 64 * i ≡ length (head s) + 64 * i = omega (arith, head_sixteen s) in
    holds (over b (16 + 64 * i) (chip_record c)) (with_chip i c s) (whole_with i c s (λ below. new) whole)
    (ap₂ (λ l (n : ℕ). over l n (chip_record c)) (sym (written_back b is)) at
    ∙ over_behind (head s) (records s.chips) (chip_record c) (64 * i)
    ∙ ap (λ rest. head s ++ rest) (record_over s.chips i c new (λ k l. whole.whole_chips k (subst (λ n. k < n) whole.eight_chips l)) (omega (arith, h, whole.eight_chips))))

pub event_set : (b : List ℕ) (event : ℕ) → is_image b ≡ true → Holds (set (set b 3 (event % 256)) 4 (event / 256)) (with_event event (chain_in b))
unfolding image_of head with_event
event_set b event is =
    holds (set (set b 3 (event % 256)) 4 (event / 256)) (with_event event (chain_in b)) (same_chips (chain_in b) (with_event event (chain_in b)) refl (read_whole b (image_length b is)))
    (ap (λ b. set (set b 3 (event % 256)) 4 (event / 256)) (sym (written_back b is)))

response_over : (a b c d e : ℕ) (old new : Response) (p q : List ℕ) →
    over (a ∷ b ∷ c ∷ d ∷ e ∷ (response_bytes old ++ p) ++ q) 5 (response_bytes new) ≡ a ∷ b ∷ c ∷ d ∷ e ∷ (response_bytes new ++ p) ++ q
response_over a b c d e None None p q = refl
response_over a b c d e None (Some r) p q = refl
response_over a b c d e (Some r) None p q = refl
response_over a b c d e (Some r) (Some t) p q = refl

-- an image with a response, Enable In and IACK written into it
abbrev own_over : List ℕ → Bool → Bool → Response → List ℕ
own_over b enable iack response = set (set (over b 5 (response_bytes response)) 1 (digit enable)) 2 (digit iack)

pub own_set : (b : List ℕ) (enable iack : Bool) (response : Response) → is_image b ≡ true → Holds (own_over b enable iack response) (with_own enable iack response (chain_in b))
unfolding image_of head with_own
own_set b enable iack response is =
    let s : Chain = chain_in b in
    let new : Chain = with_own enable iack response s in
    holds (own_over b enable iack response) new (same_chips s new refl (read_whole b (image_length b is)))
    (ap (λ l. own_over l enable iack response) (sym (written_back b is))
    ∙ ap (λ l. set (set l 1 (digit enable)) 2 (digit iack))
    (response_over s.count (digit s.enable) (digit s.iack) (s.event % 256) (s.event / 256) s.response response (replicate 5 0) (records s.chips)))
