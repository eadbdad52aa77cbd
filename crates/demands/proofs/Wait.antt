-- One event of a wait. Every event but an answer and a reset leaves the chip's pointer; an answer for another channel brings the request nearer; and a
-- first pulse that counts is answered by the chip.
-- Assumes nothing.
use Rattle.std.proofs.lemmas.Option.{IfSome_then}
use Rattle.std.specs.Prelude.{Some, Ok}
use mathlib.Core.Bool.{Bool, true, false, not, ◌&&◌}
use mathlib.Core.List.{List, [], ◌∷◌}
use mathlib.Core.Path.{◌≡◌, refl, ap, sym, subst, ◌∙◌}
use Prim.Native.Nat.{ℕ, zero, suc, ◌+◌, ◌≤◌, ◌<◌, suc-le-suc}
use native.Mathlib.Nat.{zero-lt-suc, lt_of_le_of_lt, mod-lt}
use native.Mathlib.Omega.{arith}
use lib.Dec.{eqb, lit<}
use lib.ListN.{get_or, length}
use lib.Seq.{get_or-set_same}
use borrow.Author.Tests.{eqb-true, eq-eqb, not-true, leb-true}
use Rattle.bits.proofs.Below.{both_left, both_right, every_each}
use Rattle.bits.specs.Below.{digit, every}
use Rattle.bits.specs.Byte.{bit, is_waiting}
use Rattle.order.specs.Order.{channel_at}
use Rattle.search.proofs.Rotating.{place_of, candidate_at, candidate_exists, waiting-before, waiting_nearer}
use Rattle.search.specs.Candidate.{candidate, exists}
use Rattle.search.specs.Order.{last_of, first_waiting}
use Rattle.refusal.proofs.Numbers.{not_both}
use Rattle.refusal.specs.Numbers.{is_accepted}
use Rattle.event.specs.declared.Event.{Event}
use Rattle.event.specs.declared.Event.TheVariants.{Fall, Rise}
use Rattle.chip.proofs.Pointer.{answered_pointer, commanded_pointer, written_pointer, line_pointer, finished_pointer}
use Rattle.chip.proofs.Soundness.{pointer_sound}
use Rattle.chip.specs.Fields.{zero_chip}
use Rattle.figure4.specs.Figure4.{is_reset}
use Rattle.chip.specs.Status.{is_armed, is_polled, is_rotating, candidate_of, gint_active}
use Rattle.chip.specs.declared.Chip.{Chip}
use Rattle.response.specs.Held.{reply_of, is_idle, is_responding, Response}
use Rattle.response.specs.declared.Reply.{Reply}
use Rattle.decide.proofs.Rules.{changes}
use Rattle.decide.proofs.Soundness.{selected_is}
use Rattle.decide.specs.Decided.{decided}
use Rattle.decide.specs.Pulse.{driving, first_pulse, fallen}
use Rattle.decide.specs.declared.Change.{Change}
use Rattle.decide.specs.declared.Look.TheVariants.{Answering}
use Rattle.chain.proofs.Acknowledge.{Answers, selected_answers, ei_high, reached_selected}
use Rattle.chain.proofs.Rules.{chain_fields, applying}
use Rattle.chain.proofs.Soundness.{chip_sound_lem}
use Rattle.chain.specs.Apply.{applied, decision, counted}
use Rattle.chain.specs.Events.{accepted, judged, event_of}
use Rattle.chain.specs.Fields.{chip_at}
use Rattle.chain.specs.Refusals.{verdict_of}
use Rattle.chain.specs.Seen.{seen_at, seen_in, seen_by, selected}
use Rattle.chain.specs.Sound.{sound}
use Rattle.chain.specs.declared.Chain.{Chain}
use Rattle.demands.specs.Kept.{replaces}
use Rattle.demands.specs.Wait.{waits, is_first_pulse, is_for, is_for_another, answers_it, answers_another, resets, reaches, is_counted}
use Rattle.demands.proofs.Kept.{applied_there, first_there, left}
use Rattle.demands.proofs.Puts.{Ways, puts}

-- what a waiting request says of its chip
record Waiting (c : Chip) (channel : ℕ) : Type 0 where
  armed : is_armed c ≡ true
  interrupt : is_polled c ≡ false
  rotating : is_rotating c ≡ true
  request : is_waiting c.irr c.imr channel ≡ true

waiting_parts : (c : Chip) (channel : ℕ) → waits c channel ≡ true → Waiting c channel
waiting_parts c channel e = search arith

-- the pointer of chip i
abbrev pub pointer_at : Chain → ℕ → ℕ
pointer_at s i = (chip_at s i).pointer

middle_false : (a x b : Bool) → a ≡ true → b ≡ true → a && x && b ≡ false → x ≡ false
middle_false a x b ea eb e = search arith

-- what is put in the place of chip i has its pointer
module _ (s : Chain) (i : ℕ) where
  abbrev Same : Event → Chip → Type 0
  Same e c =
      verdict_of e s ≡ Ok tt → resets i e s ≡ false → is_first_pulse e s && is_responding (selected s) i ≡ false → (seen_by e s).at ≡ i → c.pointer ≡ pointer_at s i

  first-answered : (ok idle responding : Bool) → ok ≡ true → ok && idle && responding ≡ false → idle && responding ≡ false
  first-answered true idle responding e quiet = quiet
  first-answered false idle responding e quiet = not_both e

  ways : Ways (λ e. seen_by e s) Same
  unfolding seen_at
  ways =
      record {
        command = λ j code ok none quiet is.
            commanded_pointer code (chip_at s j) (middle_false (eqb j i) (is_reset code) _ (eq-eqb j i is) (ap is_accepted ok) none) ∙ ap (pointer_at s) is;
        data_write = λ j byte ok none quiet is. written_pointer (chip_at s j).destination byte (chip_at s j) ∙ ap (pointer_at s) is;
        line = λ j channel level ok none quiet is. line_pointer channel (eqb level 1) (chip_at s j) ∙ ap (pointer_at s) is;
        first_pulse_lem = λ r idle found ok none quiet is.
            not_both
            (sym (first-answered (is_accepted (verdict_of Fall s)) (is_idle s.response) _ (ap is_accepted ok) quiet)
            ∙ subst (λ (k : ℕ). replaces Fall s k ≡ true) is (first_there s r idle found));
        last_rise = λ r under ok none quiet is. finished_pointer r.channel (seen_by Rise s).chip ∙ ap (pointer_at s) is;
      }

-- every event but a reset and a first pulse that the chip answers leaves its pointer
quiet_step : (e : Event) (s : Chain) (i : ℕ) → resets i e s ≡ false → is_first_pulse e s && is_responding (selected s) i ≡ false
    → pointer_at (event_of e s).chain i ≡ pointer_at s i
unfolding event_of chain_fields counted decision
quiet_step e s i none quiet =
    left (λ t. pointer_at t i ≡ pointer_at s i) (verdict_of e s) e s refl
    (λ ok. applied_there (λ (c : Chip). c.pointer ≡ pointer_at s i) (decision e s) s i
    (IfSome_then (decision e s).replaced (puts (λ e. seen_by e s) (Same s i) (ways s i) e)
    (λ r there is. there.1 ok none quiet (sym there.0 ∙ is)))
    refl)

-- after a first pulse the pointer of the chip that answers is the channel
in_list : (l : List Chip) (i : ℕ) → is_armed (get_or l i zero_chip) ≡ true → i < length l
unfolding zero_chip
in_list [] i e = not_both e
in_list (c ∷ l) zero e = zero-lt-suc _
in_list (c ∷ l) (suc i) e = suc-le-suc (in_list l i e)

-- chip i with another one put there
pub put_there : (c : Change) (s : Chain) (i : ℕ) (new : Chip) → c.replaced ≡ Some (record { at = i; chip = new }) → is_armed (chip_at s i) ≡ true
    → chip_at (applied c s) i ≡ new
unfolding applying
put_there c s i new put armed = search (arith, get_or-set_same, in_list)

first_pointer : (found : Response) (s : Chain) (r : Reply) → selected s ≡ found → found ≡ Some r → is_armed (chip_at s r.chip) ≡ true
    → pointer_at (applied (first_pulse found (seen_in Answering s)) s) r.chip ≡ r.channel
unfolding changes driving first_pulse selected seen_at
first_pointer found s r is under armed = search (arith, selected_is, put_there, answered_pointer)

answer_pointer : (s : Chain) (r : Reply) → verdict_of Fall s ≡ Ok tt → is_idle s.response ≡ true → selected s ≡ Some r
    → is_armed (chip_at s r.chip) ≡ true
    → pointer_at (event_of Fall s).chain r.chip ≡ r.channel
unfolding chain_fields event_of judged accepted counted decision decided fallen selected seen_at
answer_pointer s r v idle is armed = search (arith, first_pointer)

-- for another channel than the one that waits, it brings that one nearer
rotating_last : (mode pointer : ℕ) → bit mode 0 ≡ true → last_of mode pointer ≡ pointer
rotating_last mode pointer e = rw e refl

pointer_le : (s : Chain) (i : ℕ) → sound s ≡ true → i < s.count → pointer_at s i ≤ 7
pointer_le s i e h = leb-true _ 7 (pointer_sound (chip_at s i) (chip_sound_lem s i e h))

other_nearer : (s : Chain) (r : Reply) (channel : ℕ) → sound s ≡ true → r.chip < s.count → channel < 8 → Waiting (chip_at s r.chip) channel
    → verdict_of Fall s ≡ Ok tt
    → is_idle s.response ≡ true
    → selected s ≡ Some r
    → (r.channel ≡ channel → ⊥)
    → place_of (pointer_at (event_of Fall s).chain r.chip) channel < place_of (pointer_at s r.chip) channel
other_nearer s r channel e h hc w v idle is other =
    let c : Chip = chip_at s r.chip in
    let a : Answers s r = selected_answers s r is in
    let at : r.channel ≡ channel_at c.pointer (first_waiting c.pointer c.irr c.imr) =
    a.channel
    ∙ candidate_at c.irr c.imr c.isr c.mode c.pointer w.armed (both_right (not (is_polled c)) _ a.active)
    ∙ ap (λ (last : ℕ). channel_at last (first_waiting last c.irr c.imr)) (rotating_last c.mode c.pointer w.rotating) in
    subst (λ (p : ℕ). place_of p channel < place_of c.pointer channel) (sym (answer_pointer s r v idle is w.armed ∙ at))
    (waiting_nearer c.pointer c.irr c.imr channel (pointer_le s r.chip e h) hc w.request (λ same. other (at ∙ same)))

-- the parts of a first pulse
pub record FirstPulse (e : Event) (s : Chain) : Type 0 where
  pub fall : e ≡ Fall
  pub accepted_fall : verdict_of e s ≡ Ok tt
  pub idle : is_idle s.response ≡ true

pub first_pulse_parts : (e : Event) (s : Chain) → is_first_pulse e s ≡ true → FirstPulse e s
first_pulse_parts e s h = search arith

-- one event of a wait: the request comes nearer by at least what the event answers for others
abbrev pub Nearer : ℕ → ℕ → Event → Chain → Type 0
Nearer i channel e s = digit (answers_another i channel e s) + place_of (pointer_at (event_of e s).chain i) channel ≤ place_of (pointer_at s i) channel

answered_step : (found : Response) (s : Chain) (i channel : ℕ) → selected s ≡ found → is_responding found i ≡ true → sound s ≡ true → i < s.count → channel < 8
    → waits (chip_at s i) channel ≡ true
    → FirstPulse Fall s
    → is_for i channel found ≡ false
    → Nearer i channel Fall s
answered_step found s i channel is here = search (arith, other_nearer)

pub wait_step : (e : Event) (s : Chain) (i channel : ℕ) → sound s ≡ true → i < s.count → channel < 8 → waits (chip_at s i) channel ≡ true → resets i e s ≡ false
    → answers_it i channel e s ≡ false
    → Nearer i channel e s
unfolding answers_it answers_another
wait_step e s i channel here h hc w none other = search (arith, answered_step, quiet_step)

-- a first pulse that counts is answered by the chip
pub counted-answered : (e : Event) (s : Chain) (i channel : ℕ) → sound s ≡ true → i < s.count → channel < 8 → waits (chip_at s i) channel ≡ true
    → is_counted i e s ≡ true
    → answers_it i channel e s ≡ false
    → answers_another i channel e s ≡ true
unfolding answers_it answers_another is_counted reaches
counted-answered e s i channel here h hc w counts other =
    let c : Chip = chip_at s i in
    let p : Waiting c channel = waiting_parts c channel w in
    let before = both_left (is_first_pulse e s && reaches i s) _ counts in
    let fp : is_first_pulse e s ≡ true = both_left (is_first_pulse e s) _ before in
    let there : reaches i s ≡ true = both_right (is_first_pulse e s) _ before in
    let empty : c.isr ≡ 0 = eqb-true c.isr 0 (both_right (is_first_pulse e s && reaches i s) _ counts) in
    let none = both_right (is_idle s.response && s.enable && every i (λ j. is_armed (chip_at s j))) _ there in
    let three = both_left (is_idle s.response && s.enable && every i (λ j. is_armed (chip_at s j))) _ there in
    let armed = both_right (is_idle s.response && s.enable) _ three in
    let two = both_left (is_idle s.response && s.enable) _ three in
    let last : last_of c.mode c.pointer ≡ c.pointer = rotating_last c.mode c.pointer p.rotating in
    let close : first_waiting c.pointer c.irr c.imr ≤ place_of c.pointer channel =
    waiting-before c.pointer c.irr c.imr channel (pointer_le s i here h) hc p.request in
    let within : first_waiting (last_of c.mode c.pointer) c.irr c.imr < 8 =
    subst (λ (last : ℕ). first_waiting last c.irr c.imr < 8) (sym last) (lt_of_le_of_lt close (mod-lt _ (lit< tt))) in
    let found : exists (candidate_of c) ≡ true =
    ap (λ (isr : ℕ). exists (candidate c.irr c.imr isr c.mode c.pointer)) empty
    ∙ candidate_exists c.irr c.imr c.mode c.pointer p.armed within in
    let is : selected s ≡ Some (reply_of i c) =
    reached_selected s i h
    (ei_high s i (both_left (is_idle s.response) _ two) (both_right (is_idle s.response) _ two) (every_each i (λ j. is_armed (chip_at s j)) armed))
    (simp (p.interrupt, found))
    (λ j l. not-true (gint_active (chip_at s j)) (every_each i (λ j. not (gint_active (chip_at s j))) none j l)) in
    subst (λ found. is_first_pulse e s && is_for i channel found ≡ false → is_first_pulse e s && is_for_another i channel found ≡ true) (sym is)
    (one_or_other (is_first_pulse e s) (eqb i i) _ fp (eq-eqb i i refl))
    other
  where
    one_or_other : (fp same it : Bool) → fp ≡ true → same ≡ true → fp && (same && it) ≡ false → fp && (same && not it) ≡ true
    one_or_other true true true ef es e = not_both (sym e)
    one_or_other true true false ef es e = refl
    one_or_other true false it ef es e = not_both es
    one_or_other false same it ef es e = not_both ef
