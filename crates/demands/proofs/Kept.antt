-- What the events keep, proved: what a change leaves of a chain, once, and by the event only which chip it may replace.
-- Assumes nothing.
use Rattle.std.proofs.lemmas.Option.{IfSome_then}
use Rattle.std.specs.Prelude.{Some, None, Ok, IfSome}
use mathlib.Core.Bool.{Bool, true, false}
use mathlib.Core.List.{List, [], ◌∷◌}
use mathlib.Core.Path.{◌≡◌, refl, ap, sym, subst, ◌∙◌}
use Prim.Native.Nat.{ℕ, ◌+◌, ◌%◌, ◌≤◌, ◌<◌}
use native.Mathlib.Omega.{arith}
use lib.Dec.{eqb}
use lib.ListN.{length, length-set}
use lib.Seq.{get_or-set_other}
use borrow.Author.Tests.{eq-eqb}
use Rattle.bits.specs.Below.{digit}
use Rattle.bits.proofs.Below.{both_not}
use Rattle.bits.proofs.Stored.{stored}
use Rattle.refusal.proofs.Numbers.{not_both}
use Rattle.refusal.specs.Answers.{verdict_in, handed}
use Rattle.refusal.specs.Numbers.{verdict_number, is_accepted, Answer, Verdict}
use Rattle.event.specs.declared.Event.{Event}
use Rattle.event.specs.declared.Event.TheVariants.{Command, Data, Status, Read, Line, Enable, Fall, Rise}
use Rattle.chip.specs.declared.Chip.{Chip}
use Rattle.response.specs.Held.{is_idle, is_responding, Response}
use Rattle.response.specs.declared.Reply.{Reply}
use Rattle.decide.proofs.Answered.{decided_tells}
use Rattle.decide.proofs.Passed.{passed_names}
use Rattle.decide.proofs.Soundness.{selected_is}
use Rattle.decide.specs.Look.{unless_responding}
use Rattle.decide.specs.Pulse.{selected_by}
use Rattle.decide.specs.declared.Change.{Change}
use Rattle.decide.specs.declared.Look.TheVariants.{Nowhere}
use Rattle.chain.proofs.Kept as kept
use Rattle.chain.proofs.Number.{applied_number}
use Rattle.chain.proofs.Passed.{passed_sound, passed_tests}
use Rattle.chain.proofs.Rules.{chain_fields, applying}
use Rattle.chain.proofs.Soundness.{under_way_parts, selected-sound}
use Rattle.chain.specs.Apply.{applied, decision, answer_of, counted}
use Rattle.chain.specs.Events.{accepted, refused, judged, event_of}
use Rattle.chain.specs.Fields.{chip_at}
use Rattle.chain.specs.Refusals.{verdict_of}
use Rattle.chain.specs.Seen.{looked_at, seen_at, seen_by, selected}
use Rattle.chain.specs.Sound.{sound}
use Rattle.chain.specs.declared.Chain.{Chain}
use Rattle.demands.specs.Along.{after, along, accepted_in}
use Rattle.demands.specs.Kept.{Kept, replaces}
use Rattle.demands.proofs.Puts.{puts}

-- a chip of a chain to which a change is applied: the one that the change puts in this place, or the one of before
pub applied_there : (P : Chip → Type 0) (c : Change) (s : Chain) (k : ℕ) → IfSome c.replaced (λ replaced. replaced.at ≡ k → P replaced.chip) → P (chip_at s k)
    → P (chip_at (applied c s) k)
unfolding applying
applied_there P c s k new old = search (arith, stored, get_or-set_other)

pub applied_records : (c : Change) (s : Chain) → length (applied c s).chips ≡ length s.chips
unfolding applying
applied_records c s = search (arith, length-set)

-- an event replaces no chip but the one that it may replace
pub first_there : (s : Chain) (r : Reply) → s.response ≡ None → selected_by (seen_by Fall s) ≡ Some r → replaces Fall s (seen_by Fall s).at ≡ true
unfolding selected
first_there s r idle found = search (arith, selected_is)

within : (e : Event) (s : Chain) → IfSome (decision e s).replaced (λ replaced. replaces e s replaced.at ≡ true)
unfolding decision seen_at
within e s =
    IfSome_then (decision e s).replaced
    (puts (λ e. seen_by e s) (λ e c. replaces e s (seen_by e s).at ≡ true)
    (record {
      command = λ i code. eq-eqb i i refl;
      data_write = λ i byte. eq-eqb i i refl;
      line = λ i channel level. eq-eqb i i refl;
      first_pulse_lem = λ r idle found. first_there s r idle found;
      last_rise = λ r under.
          ap (λ response. is_responding response (looked_at (unless_responding Nowhere response) s)) under ∙ eq-eqb r.chip r.chip refl;
    })
    e)
    (λ r there. subst (λ (k : ℕ). replaces e s k ≡ true) (sym there.0) there.1)

-- what an event leaves is the chain of before or, where it is accepted, the chain with its change applied
pub left : (P : Chain → Type 0) (v : Verdict) (e : Event) (s : Chain) → P s → (v ≡ Ok tt → P (counted (applied (decision e s) s))) → P (judged v e s).chain
unfolding judged accepted refused
left P v e s before changed = search arith

-- so it leaves the other chips, and as many of them, and the count
same : (v : Verdict) (e : Event) (s : Chain) (k : ℕ) → (v ≡ Ok tt → replaces e s k ≡ false) → chip_at (judged v e s).chain k ≡ chip_at s k
unfolding chain_fields counted
same v e s k other =
    left (λ t. chip_at t k ≡ chip_at s k) v e s refl
    (λ ok. applied_there (λ (c : Chip). c ≡ chip_at s k) (decision e s) s k
    (IfSome_then (decision e s).replaced (within e s) (λ r may is. not_both (sym (other ok) ∙ subst (λ (k : ℕ). replaces e s k ≡ true) is may)))
    refl)

count : (v : Verdict) (e : Event) (s : Chain) → (judged v e s).chain.count ≡ s.count
unfolding chain_fields counted
count v e s = left (λ t. t.count ≡ s.count) v e s refl (λ ok. kept.applied_count (decision e s) s)

pub records : (v : Verdict) (e : Event) (s : Chain) → length (judged v e s).chain.chips ≡ length s.chips
unfolding chain_fields counted
records v e s = left (λ t. length t.chips ≡ length s.chips) v e s refl (λ ok. applied_records (decision e s) s)

-- at most one chip
one : (e : Event) (s : Chain) (j k : ℕ) → replaces e s j ≡ true → replaces e s k ≡ true → j ≡ k
one e s j k ej ek = search arith

-- an accepted event replaces no record past the count
not-past : (i count k : ℕ) → i < count → count ≤ k → eqb i k ≡ false
not-past i count k h l = search arith

selected-past : (found : Response) (s : Chain) (k : ℕ) → selected s ≡ found → sound s ≡ true → s.count ≤ k → is_responding found k ≡ false
selected-past found s k is e l = search (arith, selected-sound)

response_past : (response : Response) (s : Chain) (k : ℕ) → s.response ≡ response → sound s ≡ true → s.count ≤ k → is_responding response k ≡ false
response_past response s k is e l = search (arith, under_way_parts)

past : (e : Event) (s : Chain) (k : ℕ) → verdict_of e s ≡ Ok tt → s.count ≤ k → replaces e s k ≡ false
unfolding seen_at
past (Command i code) s k v l = not-past i s.count k (passed_names (Command i code) (seen_by (Command i code) s) refl (passed_tests (Command i code) s v)) l
past (Data i byte) s k v l = not-past i s.count k (passed_names (Data i byte) (seen_by (Data i byte) s) refl (passed_tests (Data i byte) s v)) l
past (Status i) s k v l = refl
past (Read i) s k v l = refl
past (Line i channel level) s k v l = not-past i s.count k (passed_names (Line i channel level) (seen_by (Line i channel level) s) refl (passed_tests (Line i channel level) s v)) l
past (Enable level) s k v l = refl
past Fall s k v l = both_not (is_idle s.response) _ (selected-past (selected s) s k refl (passed_sound Fall s v) l)
past Rise s k v l = response_past s.response s k refl (passed_sound Rise s v) l

-- an accepted event's answer has the number 0
pub answer_number : (a : Answer) → verdict_number (verdict_in a) ≡ (handed a).number
answer_number a = search arith

pub answers_zero : (e : Event) (s : Chain) → (handed (answer_of e s)).number ≡ 0
unfolding decision
answers_zero e s = sym (answer_number (answer_of e s)) ∙ ap verdict_number (decided_tells e (seen_by e s))

-- the event number along a list
pub no_event : (n : ℕ) → n < 65536 → n ≡ (n + 0) % 65536
no_event n h = omega arith

zero_judged : (v : Verdict) (e : Event) (s : Chain) → eqb (handed (judged v e s).answer).number 0 ≡ is_accepted v
unfolding judged accepted refused
zero_judged v e s = search (arith, answers_zero)

number_judged : (v : Verdict) (e : Event) (s : Chain) (a : ℕ) → ((judged v e s).chain.event + a) % 65536 ≡ (s.event + (digit (is_accepted v) + a)) % 65536
unfolding chain_fields judged accepted refused counted
number_judged v e s a = search (arith, applied_number)

number_lt : (v : Verdict) (e : Event) (s : Chain) → s.event < 65536 → (judged v e s).chain.event < 65536
unfolding chain_fields judged accepted refused counted
number_lt v e s h = search arith

number : (s : Chain) (es : List Event) → s.event < 65536 → (after s es).event ≡ (s.event + accepted_in s es) % 65536
unfolding after along event_of
number s [] h = no_event s.event h
number s (e ∷ es) h =
    number (event_of e s).chain es (number_lt (verdict_of e s) e s h)
    ∙ number_judged (verdict_of e s) e s (accepted_in (event_of e s).chain es)
    ∙ ap (λ (b : Bool). (s.event + (digit b + accepted_in (event_of e s).chain es)) % 65536) (sym (zero_judged (verdict_of e s) e s))

pub events_keep : Kept
unfolding event_of
events_keep =
    record {
      sound_kept = kept.sound_kept;
      start_sound = kept.start_sound;
      one_at_most = one;
      others_unchanged = λ e s k h. same (verdict_of e s) e s k (λ ok. h);
      past_the_count = λ e s k l. same (verdict_of e s) e s k (λ ok. past e s k ok l);
      count_kept = λ e s. count (verdict_of e s) e s;
      records_kept = λ e s. records (verdict_of e s) e s;
      zero_is_accepted = λ e s. zero_judged (verdict_of e s) e s;
      number_counts = number;
    }
