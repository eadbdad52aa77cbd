-- Who answers a first pulse: the chip that it selects has a candidate and M2 clear, and a chip that it reaches with these is selected.
-- Assumes nothing.
use Rattle.std.specs.Prelude.{Some, None}
use mathlib.Core.Bool.{true, false, ◌&&◌}
use mathlib.Core.Path.{◌≡◌, refl, sym, subst}
use Prim.Native.Nat.{ℕ, zero, suc, ◌<◌}
use native.Mathlib.Nat.{le_refl, le_step}
use borrow.Author.Tests.{lt-ltb}
use Rattle.bits.proofs.Below.{both_right, both_not, first_is, first_passes}
use Rattle.refusal.proofs.Numbers.{not_both}
use Rattle.search.specs.Candidate.{channel_of}
use Rattle.chip.specs.Status.{is_armed, gint_active, candidate_of}
use Rattle.response.specs.Held.{reply_of, is_idle, is_responding}
use Rattle.response.specs.declared.Reply.{Reply}
use Rattle.response.specs.Held.{Response}
use Rattle.decide.proofs.Soundness.{selected_is}
use Rattle.decide.specs.Pulse.{selected_by}
use Rattle.decide.specs.declared.Look.TheVariants.{Answering}
use Rattle.chain.specs.Fields.{chip_at}
use Rattle.chain.specs.Pins.{ei}
use Rattle.chain.specs.Seen.{seen_at, seen_in, selected}
use Rattle.chain.specs.Walk.{answering_chip}
use Rattle.chain.specs.declared.Chain.{Chain}

-- the selected response is that of its chip's candidate, and the chip's GINT is active
pub record Answers (s : Chain) (r : Reply) : Type 0 where
  pub active : gint_active (chip_at s r.chip) ≡ true
  pub channel : r.channel ≡ channel_of (candidate_of (chip_at s r.chip))

active_there : (s : Chain) → answering_chip s < s.count → gint_active (chip_at s (answering_chip s)) ≡ true
unfolding answering_chip
active_there s h = both_right (ei s (answering_chip s)) _ (first_passes s.count (λ i. ei s i && gint_active (chip_at s i)) h)

pub selected_answers : (s : Chain) (r : Reply) → selected s ≡ Some r → Answers s r
unfolding selected seen_at
selected_answers s r is =
    let found = selected_is (seen_in Answering s) r is in
    subst (Answers s) (sym found.1) (record { active = active_there s found.0; channel = refl })

-- with no response under way, EI stays high up to a chip before which all are armed
none_responds : (response : Response) (i : ℕ) → is_idle response ≡ true → is_responding response i ≡ false
none_responds None i e = refl
none_responds (Some r) i e = not_both e

pub ei_high : (s : Chain) (i : ℕ) → is_idle s.response ≡ true → s.enable ≡ true → ((j : ℕ) → j < i → is_armed (chip_at s j) ≡ true) → ei s i ≡ true
unfolding ei
ei_high s zero idle high armed = high
ei_high s (suc i) idle high armed =
    simp (ei_high s i idle high (λ j h. armed j (le_step h)), armed i (le_refl (suc i)), none_responds s.response i idle)

-- so such a chip is selected, if its GINT is active and no earlier one's is
reached_answers : (s : Chain) (i : ℕ) → i < s.count → ei s i ≡ true → gint_active (chip_at s i) ≡ true → ((j : ℕ) → j < i → gint_active (chip_at s j) ≡ false)
    → answering_chip s ≡ i
unfolding answering_chip
reached_answers s i h high active none =
    first_is s.count (λ i. ei s i && gint_active (chip_at s i)) i h (λ j l. both_not (ei s j) _ (none j l)) (simp (high, active))

pub reached_selected : (s : Chain) (i : ℕ) → i < s.count → ei s i ≡ true → gint_active (chip_at s i) ≡ true → ((j : ℕ) → j < i → gint_active (chip_at s j) ≡ false)
    → selected s ≡ Some (reply_of i (chip_at s i))
unfolding selected selected_by seen_at
reached_selected s i h high active none =
    rw (reached_answers s i h high active none) (simp (lt-ltb i s.count h))
