-- What an event on an image is shown is enough: its verdict is that over what the chain shows, and where it is accepted so is what is decided, and a chip that is
-- replaced is one of the eight.
-- Assumes nothing.
use Rattle.std.specs.Prelude.{Some, None, Ok, Err, IfSome, IsErrAnd}
use mathlib.Core.Bool.{Bool, true, false}
use mathlib.Core.Path.{◌≡◌, refl, ap, sym, subst, ◌∙◌}
use Prim.Native.Nat.{ℕ, ◌≤◌, ◌<◌, ◌%◌}
use native.Mathlib.Omega.{arith}
use lib.Dec.{leb, ltb, eqb}
use borrow.Author.Tests.{le-leb, le-ltb, ltb-true, ltb-false}
use Rattle.bits.proofs.Below.{either}
use Rattle.refusal.specs.declared.Refusal.{Refusal}
use Rattle.event.specs.Numbers.{in_numbers}
use Rattle.event.specs.declared.Event.{Event}
use Rattle.event.specs.declared.Event.TheVariants.{Command, Data, Status, Read, Line, Enable, Fall, Rise}
use Rattle.response.specs.Held.{ends_response}
use Rattle.response.specs.declared.Reply.{Reply}
use Rattle.response.specs.Held.{Response}
use Rattle.decide.proofs.Passed.{passed_names}
use Rattle.decide.proofs.Rules.{changes, decisions}
use Rattle.decide.specs.Change.{nothing, setting}
use Rattle.decide.specs.Decided.{decided}
use Rattle.decide.specs.Look.{unless_responding, look_of}
use Rattle.decide.specs.Pulse.{selected_by, first_pulse, fallen, risen_after, risen}
use Rattle.decide.specs.Refusals.{verdict_on}
use Rattle.decide.specs.Sound.{seen_sound}
use Rattle.decide.specs.declared.Change.{Change}
use Rattle.decide.specs.declared.Look.{Look}
use Rattle.decide.specs.declared.Look.TheVariants.{Nowhere, Answering}
use Rattle.decide.specs.declared.Seen.{Seen}
use Rattle.chain.proofs.Judged.{is_accepted_lem, is_refused}
use Rattle.chain.proofs.Soundness.{parts, count_le, seen_sound_lem, under_way_parts}
use Rattle.chain.specs.Events.{accepted, refused, event_of}
use Rattle.chain.specs.Seen.{looked_at, looked_ei, seen_at, seen_by}
use Rattle.chain.specs.Sound.{sound}
use Rattle.chain.specs.declared.Chain.{Chain}
use Rattle.chain.specs.declared.Outcome.{Outcome}
use Rattle.refusal.specs.Numbers.{Answer}
use Rattle.std.proofs.lemmas.Result.{err_from_is_err_and}
use Rattle.parts.specs.Round.{seen_round, shown_to}

-- a chip that is replaced is one of the eight
abbrev pub Within : Change → Type 0
Within c = IfSome c.replaced (λ replaced. replaced.at < 8)

-- an event is told and does the same by what it is shown, v, and by what there is to see, w
pub record Enough (e : Event) (v w : Seen) : Type 0 where
  pub verdict : verdict_on e v ≡ verdict_on e w
  pub change : verdict_on e v ≡ Ok tt → decided e v ≡ decided e w
  pub at : verdict_on e v ≡ Ok tt → Within (decided e v)
  pub sound_seen : seen_sound v ≡ true

-- the chip that is replaced is the one that is looked at
first_at : (found : Response) (v : Seen) → v.at < 8 → Within (first_pulse found v)
unfolding decisions
first_at None v h = tt
first_at (Some r) v h = h

fallen_at : (response : Response) (v : Seen) → v.at < 8 → Within (fallen response v)
unfolding decisions
fallen_at None v h = first_at (selected_by v) v h
fallen_at (Some r) v h = tt

after_at : (last : Bool) (r : Reply) (v : Seen) → v.at < 8 → Within (risen_after last r v)
unfolding decisions
after_at true r v h = h
after_at false r v h = tt

risen_at : (response : Response) (v : Seen) → v.at < 8 → Within (risen response v)
unfolding decisions
risen_at None v h = tt
risen_at (Some r) v h = after_at (eqb r.delivered r.length) r v h

decided_at : (e : Event) (v : Seen) → v.at < 8 → Within (decided e v)
unfolding changes decided
decided_at (Command i code) v h = either (λ (c : Change). Within c) (ends_response v.at code v.response) _ _ (λ ends. h) (λ stays. h)
decided_at (Data i byte) v h = h
decided_at (Status i) v h = tt
decided_at (Read i) v h = tt
decided_at (Line i channel level) v h = h
decided_at (Enable level) v h = tt
decided_at Fall v h = fallen_at v.response v h
decided_at Rise v h = risen_at v.response v h

-- below eight it is the same that is seen
round_is : (s : Chain) (at : ℕ) (ei : Bool) → at < 8 → seen_round at ei s ≡ seen_at at ei s
unfolding seen_round seen_at
round_is s at ei h = let within : at % 8 ≡ at = omega arith in simp within

below_enough : (e : Event) (s : Chain) → sound s ≡ true → looked_at (look_of e s.response) s < 8 → Enough e (shown_to e s) (seen_by e s)
unfolding seen_round
below_enough e s here h =
    let same : shown_to e s ≡ seen_by e s = round_is s _ _ h in
    record {
      verdict = ap (verdict_on e) same;
      change = λ ok. ap (decided e) same;
      at = λ ok. decided_at e (shown_to e s) h;
      sound_seen = ap seen_sound same ∙ seen_sound_lem s _ _ here;
    }

-- past eight: an event that names a chip is refused, and the others decide without one
past-sound : (s : Chain) (at : ℕ) (ei : Bool) → sound s ≡ true → 8 ≤ at → seen_sound (seen_round at ei s) ≡ true
unfolding seen_sound seen_round
past-sound s at ei here past = simp (le-ltb at s.count (omega (arith, count_le s here)), (parts s here).response)

no_such_chip_lem : (e : Event) (s : Chain) → leb (in_numbers e).kind 5 ≡ true → sound s ≡ true → 8 ≤ looked_at (look_of e s.response) s
    → verdict_on e (shown_to e s) ≡ verdict_on e (seen_by e s)
    → Enough e (shown_to e s) (seen_by e s)
unfolding seen_round
no_such_chip_lem e s named here past same =
    let none : verdict_on e (shown_to e s) ≡ Ok tt → ⊥ = λ ok. omega (arith, passed_names e (shown_to e s) named ok, past, count_le s here) in
    record { verdict = same; change = λ ok. absurd (none ok); at = λ ok. absurd (none ok); sound_seen = past-sound s _ _ here past }

fall_stalls : (v : Seen) → v.response ≡ None → v.count ≤ v.at → decided Fall v ≡ setting v.enable false None nothing
unfolding decided fallen selected_by first_pulse
fall_stalls v is past = simp (is, le-ltb v.at v.count past)

rise_idles : (v : Seen) → v.response ≡ None → decided Rise v ≡ setting v.enable true None nothing
unfolding decided risen
rise_idles v is = simp is

enable_enough : (level : ℕ) (s : Chain) → sound s ≡ true → 8 ≤ s.count → Enough (Enable level) (shown_to (Enable level) s) (seen_by (Enable level) s)
unfolding seen_round seen_at changes decided
enable_enough level s here past =
    record { verdict = refl; change = λ ok. refl; at = λ ok. tt; sound_seen = past-sound s _ _ here past }

past_enough : (e : Event) (s : Chain) → sound s ≡ true → 8 ≤ looked_at (look_of e s.response) s → Enough e (shown_to e s) (seen_by e s)
unfolding seen_round seen_at changes
past_enough (Command i code) s here past = no_such_chip_lem (Command i code) s refl here past refl
past_enough (Data i byte) s here past =
    no_such_chip_lem (Data i byte) s refl here past (simp (le-leb s.count i (omega (arith, past, count_le s here))))
past_enough (Status i) s here past = no_such_chip_lem (Status i) s refl here past refl
past_enough (Read i) s here past = no_such_chip_lem (Read i) s refl here past refl
past_enough (Line i channel level) s here past = no_such_chip_lem (Line i channel level) s refl here past refl
past_enough (Enable level) s here past = enable_enough level s here past
past_enough Fall s here past = by s.response refl
  where
    by : (response : Response) → s.response ≡ response → Enough Fall (shown_to Fall s) (seen_by Fall s)
    by None is =
        let over : s.count ≤ looked_at (look_of Fall s.response) s = omega (arith, past, count_le s here) in
        let stalls = fall_stalls (shown_to Fall s) is over in
        record {
          verdict = refl;
          change = λ ok. stalls ∙ sym (fall_stalls (seen_by Fall s) is over);
          at = λ ok. rw stalls tt;
          sound_seen = past-sound s _ _ here past;
        }
    by (Some r) is =
        let at : looked_at (look_of Fall s.response) s ≡ r.chip = ap (λ (response : Response). looked_at (unless_responding Answering response) s) is in
        absurd (omega (arith, past, at, (under_way_parts s r here is).chip, count_le s here))
past_enough Rise s here past = by s.response refl
  where
    by : (response : Response) → s.response ≡ response → Enough Rise (shown_to Rise s) (seen_by Rise s)
    by None is =
        let idles = rise_idles (shown_to Rise s) is in
        record {
          verdict = refl;
          change = λ ok. idles ∙ sym (rise_idles (seen_by Rise s) is);
          at = λ ok. rw idles tt;
          sound_seen = past-sound s _ _ here past;
        }
    by (Some r) is =
        let at : looked_at (look_of Rise s.response) s ≡ r.chip = ap (λ (response : Response). looked_at (unless_responding Nowhere response) s) is in
        absurd (omega (arith, past, at, (under_way_parts s r here is).chip, count_le s here))

-- what an event is shown is enough
pub enough : (e : Event) (s : Chain) (v : Seen) → v ≡ shown_to e s → sound s ≡ true → Enough e v (seen_by e s)
enough e s v is here =
    subst (λ (v : Seen). Enough e v (seen_by e s)) (sym is) (by (ltb (looked_at (look_of e s.response) s) 8) refl)
  where
    by : (b : Bool) → ltb (looked_at (look_of e s.response) s) 8 ≡ b → Enough e (shown_to e s) (seen_by e s)
    by true t = below_enough e s here (ltb-true _ _ t)
    by false t = past_enough e s here (ltb-false _ _ t)

pub is_seen_sound : (e : Event) (s : Chain) (v : Seen) → v ≡ shown_to e s → sound s ≡ true → seen_sound v ≡ true
is_seen_sound e s v is here = (enough e s v is here).sound_seen

-- so where the verdict on what it is shown accepts, what it decides by that is what it hands back ..
pub does : (e : Event) (s : Chain) (v : Seen) → v ≡ shown_to e s → sound s ≡ true → verdict_on e v ≡ Ok tt → event_of e s ≡ accepted (decided e v) s
does e s v is here told =
    is_accepted_lem e s (seen_by e s) refl here (sym (enough e s v is here).verdict ∙ told)
    ∙ ap (λ (c : Change). accepted c s) (sym ((enough e s v is here).change told))

pub lands : (e : Event) (s : Chain) (v : Seen) → v ≡ shown_to e s → sound s ≡ true → verdict_on e v ≡ Ok tt → Within (decided e v)
lands e s v is here told = (enough e s v is here).at told

-- .. and where it refuses, the refusal is handed on, and the chain is as given
pub declines : (e : Event) (s : Chain) (v : Seen) (why : Refusal) → v ≡ shown_to e s → sound s ≡ true → verdict_on e v ≡ Err why → event_of e s ≡ refused why s
declines e s v why is here told = is_refused e s (seen_by e s) why refl here (sym (enough e s v is here).verdict ∙ told)
