-- One event of a run: with at least one left it goes on after an accepted event and stops at a refusal, and a sound chain stays sound.
-- And so what holds of a run of any length.
-- Assumes nothing.
use Rattle.std.specs.Prelude.{Ok, Err}
use mathlib.Core.Bool.{Bool, true, false, cond}
use mathlib.Core.List.{List}
use mathlib.Core.Path.{◌≡◌, refl, ap, sym, ◌∙◌}
use Prim.Native.Nat.{ℕ, zero, suc, ◌+◌, ◌*◌}
use lib.ListN.{length, set, length-set}
use Rattle.refusal.specs.Numbers.{is_accepted}
use Rattle.refusal.specs.Numbers.{Verdict}
use Rattle.refusal.proofs.Numbers.{not_both}
use Rattle.chain.proofs.Kept.{sound_kept}
use Rattle.refusal.specs.Answers.{verdict_in, Handed, handed}
use Rattle.chain.specs.Sound.{sound}
use Rattle.chain.specs.declared.Chain.{Chain}
use Rattle.chain.specs.declared.Outcome.{Outcome}
use Rattle.decide.proofs.Answered.{decided_tells}
use Rattle.chain.specs.Apply.{decision}
use Rattle.chain.specs.Events.{accepted, refused, judged, event_of}
use Rattle.chain.specs.Seen.{seen_by}
use Rattle.chain.specs.Refusals.{verdict_of}
use Rattle.event.specs.declared.Event.{Event}
use Rattle.run.specs.List.{listed_at}
use Rattle.run.specs.Run.{Report, listed_outcome, noted, stopped, run_from, accepted_from}
use Rattle.event.specs.Numbers.{Listed}

pub goes_on : (left rest : ℕ) (bytes : List ℕ) (n : ℕ) (s : Chain) (results : List ℕ) (o : Outcome) → left ≡ suc rest
    → o ≡ listed_outcome (listed_at bytes n) s
    → is_accepted (verdict_in o.answer) ≡ true
    → run_from left bytes n s results ≡ run_from rest bytes (n + 1) o.chain (noted n (handed o.answer) results)
unfolding run_from
goes_on left rest bytes n s results o more is on = simp (more, ← is, on)

pub stops : (left rest : ℕ) (bytes : List ℕ) (n : ℕ) (s : Chain) (results : List ℕ) (o : Outcome) → left ≡ suc rest
    → o ≡ listed_outcome (listed_at bytes n) s
    → is_accepted (verdict_in o.answer) ≡ false
    → run_from left bytes n s results ≡ stopped (verdict_in o.answer) n s results
unfolding run_from
stops left rest bytes n s results o more is off = simp (more, ← is, off)

pub step_sound : (listed : Listed) (s : Chain) → sound s ≡ true → sound (listed_outcome listed s).chain ≡ true
step_sound (Ok e) s h = sound_kept e s h
step_sound (Err _) s h = h

-- the results keep their length
pub noted-length : (n : ℕ) (h : Handed) (results : List ℕ) → length (noted n h results) ≡ length results
noted-length n h results = length-set (set results (2 * n) h.drove) (2 * n + 1) h.byte ∙ length-set results (2 * n) h.drove

-- What holds where a run stops, none more accepted, and before an accepted event if after it, holds of every run over these bytes: from the n-th event on,
-- of the chain and results there, the report, and how many events it accepts.
abbrev pub OfRun : Type 1
OfRun = ℕ → Chain → List ℕ → Report → ℕ → Type 0

either : (P : Report → ℕ → Type 0) (goes : Bool) (rest stop : Report) (k : ℕ) → (goes ≡ true → P rest (k + 1)) → P stop 0 → P (cond goes rest stop) (cond goes (k + 1) 0)
either P true rest stop k on off = on refl
either P false rest stop k on off = off

pub run_through : (bytes : List ℕ) (P : OfRun)
    → ((n : ℕ) (s : Chain) (results : List ℕ) (v : Verdict) → P n s results (stopped v n s results) 0)
    → ((n : ℕ) (s : Chain) (results : List ℕ) (r : Report) (k : ℕ) → is_accepted (verdict_in (listed_outcome (listed_at bytes n) s).answer) ≡ true
    → P (n + 1) (listed_outcome (listed_at bytes n) s).chain (noted n (handed (listed_outcome (listed_at bytes n) s).answer) results) r k
    → P n s results r (k + 1))
    → (left n : ℕ) (s : Chain) (results : List ℕ) → P n s results (run_from left bytes n s results) (accepted_from left bytes n s)
unfolding run_from accepted_from
run_through bytes P stop step zero n s results = stop n s results (Ok tt)
run_through bytes P stop step (suc left) n s results =
    let o : Outcome = listed_outcome (listed_at bytes n) s in
    let rest : Report = run_from left bytes (n + 1) o.chain (noted n (handed o.answer) results) in
    let more : ℕ = accepted_from left bytes (n + 1) o.chain in
    either (P n s results) (is_accepted (verdict_in o.answer)) rest (stopped (verdict_in o.answer) n s results) more
    (λ on. step n s results rest more on (run_through bytes P stop step left (n + 1) o.chain (noted n (handed o.answer) results)))
    (stop n s results (verdict_in o.answer))

judged_same : (v : Verdict) (e : Event) (s : Chain) → is_accepted (verdict_in (judged v e s).answer) ≡ false → (judged v e s).chain ≡ s
unfolding judged accepted refused decision
judged_same (Err why) e s off = refl
judged_same (Ok tt) e s off = not_both (sym off ∙ ap is_accepted (decided_tells e (seen_by e s)))

-- a listed event that is refused leaves the chain
pub step_same : (listed : Listed) (s : Chain) → is_accepted (verdict_in (listed_outcome listed s).answer) ≡ false → (listed_outcome listed s).chain ≡ s
unfolding event_of
step_same (Ok e) s off = judged_same (verdict_of e s) e s off
step_same (Err _) s off = refl
