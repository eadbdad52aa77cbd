-- Every event keeps a sound chain sound, and start gives a sound one.
-- Assumes nothing.
use Rattle.std.specs.Prelude.{Ok, Err, Option, Some, None, IfSome}
use mathlib.Core.Bool.{Bool, true}
use mathlib.Core.Logic.{⊎_elim}
use native.Mathlib.Omega.{arith}
use mathlib.Core.Path.{◌≡◌, refl, ap, sym, subst, ◌∙◌}
use Prim.Native.Nat.{ℕ, ◌<◌}
use native.Mathlib.Nat.{lt_of_lt_of_le}
use lib.Dec.{leb}
use lib.ListN.{get_or, replicate, get_or-replicate}
use borrow.Author.Tests.{leb-true}
use Rattle.bits.proofs.Below.{either, both_left, both_right, every-all}
use Rattle.bits.proofs.Stored.{stored}
use Rattle.refusal.proofs.Numbers.{not_zero}
use Rattle.refusal.specs.Answers.{handed}
use Rattle.refusal.specs.declared.Refusal.TheVariants.{NotSound}
use Rattle.refusal.specs.Numbers.{Verdict}
use Rattle.event.specs.declared.Event.{Event}
use Rattle.event.specs.declared.Event.TheVariants.{Rise}
use Rattle.chip.proofs.Kept.{power_up-sound}
use Rattle.chip.specs.Fields.{zero_chip}
use Rattle.chip.specs.Reset.{power_up}
use Rattle.chip.specs.Sound.{chip_sound}
use Rattle.chip.specs.declared.Chip.{Chip}
use Rattle.response.specs.Sound.{response_sound}
use Rattle.response.specs.Held.{Response}
use Rattle.decide.proofs.Kept.{KeepsSound, AtResponding, decided_kept}
use Rattle.decide.specs.Look.{unless_responding}
use Rattle.decide.specs.declared.Change.{Change}
use Rattle.decide.specs.declared.Own.{Own}
use Rattle.decide.specs.declared.Replaced.{Replaced}
use Rattle.decide.specs.declared.Look.TheVariants.{Nowhere}
use Rattle.chain.specs.Apply.{replacing_in, replaced_in, setting_in, applied, decision, changed, counted}
use Rattle.chain.specs.Events.{accepted, refused, judged, event_of}
use Rattle.chain.specs.Fields.{chip_at}
use Rattle.chain.specs.Refusals.{verdict_of}
use Rattle.chain.specs.Seen.{looked_at, seen_at, seen_by}
use Rattle.chain.specs.Sound.{count_sound, chips_sound, sound}
use Rattle.chain.specs.Start.{started, start_of}
use Rattle.chain.specs.declared.Chain.{Chain}
use Rattle.chain.specs.declared.Outcome.{Outcome}
use Rattle.chain.proofs.Passed.{passed_sound, passed_tests}
use Rattle.chain.proofs.Rules.{chain_fields, applying}
use Rattle.chain.proofs.Soundness.{SoundChain, parts, whole, chip_sound_lem, seen_sound_lem}

-- each chip of a chain to which a change is applied is one of before, or the one that the change puts there
pub applied_chips : (P : Chip → Type 0) (c : Change) (s : Chain) (k : ℕ) → IfSome c.replaced (λ replaced. P replaced.chip) → P (chip_at s k)
    → P (chip_at (applied c s) k)
unfolding applying
applied_chips P c s k new old = set c.own (replaced_in c s) (put c.replaced new)
  where
    set : (own : Option Own) (t : Chain) → P (chip_at t k) → P (chip_at (setting_in own t) k)
    set (Some own) t h = h
    set None t h = h

    put : (replaced : Option Replaced) → IfSome replaced (λ replaced. P replaced.chip) → P (chip_at (replacing_in replaced s) k)
    put (Some r) new =
        ⊎_elim (λ is. subst P (sym is) new) (λ is. subst P (sym is) old) (stored s.chips r.at k r.chip zero_chip)
    put None new = old

pub applied_count : (c : Change) (s : Chain) → (applied c s).count ≡ s.count
unfolding applying
applied_count c s = search arith

-- its response and the level of IACK are those of before, or those that it sets
applied_response : (c : Change) (s : Chain) → IfSome c.own (λ own. response_sound s.count own.iack own.response ≡ true)
    → response_sound s.count s.iack s.response ≡ true
    → response_sound s.count (applied c s).iack (applied c s).response ≡ true
unfolding applying
applied_response c s new old = set c.own (replaced_in c s) new (put c.replaced)
  where
    set : (own : Option Own) (t : Chain) → IfSome own (λ own. response_sound s.count own.iack own.response ≡ true)
        → response_sound s.count t.iack t.response ≡ true
        → response_sound s.count (setting_in own t).iack (setting_in own t).response ≡ true
    set (Some own) t new old = new
    set None t new old = old

    put : (replaced : Option Replaced) → response_sound s.count (replacing_in replaced s).iack (replacing_in replaced s).response ≡ true
    put (Some replaced) = old
    put None = old

-- a change that keeps what is seen sound keeps the chain sound
applied_kept : (c : Change) (s : Chain) (at : ℕ) (ei : Bool) → KeepsSound (seen_at at ei s) c → sound s ≡ true → sound (applied c s) ≡ true
unfolding chips_sound seen_at
applied_kept c s at ei k e =
    let p = parts s e in
    let n : (applied c s).count ≡ s.count = applied_count c s in
    whole (applied c s) record {
      at_least_one = ap (leb 1) n ∙ p.at_least_one;
      at_most_eight = ap (λ (n : ℕ). leb n 8) n ∙ p.at_most_eight;
      chips = every-all (applied c s).count (λ i. chip_sound (chip_at (applied c s) i))
          (λ i h. applied_chips (λ (c : Chip). chip_sound c ≡ true) c s i k.chip (chip_sound_lem s i e (subst (λ (n : ℕ). i < n) n h)));
      response = ap (λ (n : ℕ). response_sound n (applied c s).iack (applied c s).response) n ∙ applied_response c s k.response p.response;
    }

-- a rise looks at the chip that responds
at_responding : (e : Event) (s : Chain) → e ≡ Rise → AtResponding (seen_by e s)
unfolding seen_at
at_responding e s is =
    subst (λ (e : Event). AtResponding (seen_by e s)) (sym is)
    (λ r now. ap (λ (response : Response). looked_at (unless_responding Nowhere response) s) now)

changed_kept : (e : Event) (s : Chain) → verdict_of e s ≡ Ok tt → sound (changed e s) ≡ true
unfolding changed decision
changed_kept e s v =
    let here : sound s ≡ true = passed_sound e s v in
    applied_kept (decision e s) s _ _ (decided_kept e (seen_by e s) (passed_tests e s v) (seen_sound_lem s _ _ here) (at_responding e s)) here

counted_kept : (s : Chain) → sound s ≡ true → sound (counted s) ≡ true
unfolding sound chips_sound chain_fields counted
counted_kept s e = e

judged_kept : (v : Verdict) (e : Event) (s : Chain) → verdict_of e s ≡ v → sound s ≡ true → sound (judged v e s).chain ≡ true
unfolding judged accepted refused changed
judged_kept (Err why) e s is here = here
judged_kept (Ok tt) e s is here = counted_kept (changed e s) (changed_kept e s is)

-- every event keeps a sound chain sound
pub sound_kept : (e : Event) (s : Chain) → sound s ≡ true → sound (event_of e s).chain ≡ true
unfolding event_of
sound_kept e s here = judged_kept (verdict_of e s) e s refl here

-- start gives a sound chain
started_chips : (fill i : ℕ) → i < 8 → chip_sound (get_or (replicate 8 (power_up fill)) i zero_chip) ≡ true
started_chips fill i h = ap chip_sound (get_or-replicate 8 i (power_up fill) zero_chip h) ∙ power_up-sound fill

started_parts : (count fill : ℕ) → count_sound count ≡ true → SoundChain (started count fill)
unfolding started chips_sound
started_parts count fill within =
    let most : leb count 8 ≡ true = both_right (leb 1 count) (leb count 8) within in
    record {
      at_least_one = both_left (leb 1 count) (leb count 8) within;
      at_most_eight = most;
      chips = every-all count _ (λ i h. started_chips fill i (lt_of_lt_of_le h (leb-true count 8 most)));
      response = refl;
    }

started-sound : (count fill : ℕ) → count_sound count ≡ true → sound (started count fill) ≡ true
started-sound count fill within =
    whole (started count fill) (started_parts count fill within)

pub start_sound : (count fill : ℕ) → (handed (start_of count fill).answer).number ≡ 0 → sound (start_of count fill).chain ≡ true
unfolding start_of
start_sound count fill =
    either (λ (o : Outcome). (handed o.answer).number ≡ 0 → sound o.chain ≡ true) (count_sound count) _ _
    (λ within ok. started-sound count fill within)
    (λ outside ok. absurd (not_zero NotSound ok))
