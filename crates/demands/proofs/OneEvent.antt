-- A run of one event does what the event's own call does.
-- Assumes nothing.
use Rattle.std.specs.Prelude.{Ok, Err}
use mathlib.Core.Bool.{Bool, true, false}
use mathlib.Core.List.{List}
use mathlib.Core.Path.{◌≡◌, refl, ap, sym, ◌∙◌}
use Prim.Native.Nat.{ℕ, ◌≤◌, min}
use native.Mathlib.Omega.{arith}
use lib.ListN.{length}
use Rattle.refusal.proofs.Numbers.{accepted_is}
use Rattle.refusal.specs.Answers.{verdict_in, handed}
use Rattle.refusal.specs.Numbers.{is_accepted}
use Rattle.refusal.specs.declared.Refusal.TheVariants.{NotSound}
use Rattle.event.proofs.Told.{read_as_written}
use Rattle.event.specs.declared.Event.{Event}
use Rattle.event.specs.Numbers.{Listed}
use Rattle.chain.specs.Events.{refused, judged, event_of}
use Rattle.chain.specs.Refusals.{verdict_of}
use Rattle.chain.specs.Sound.{sound}
use Rattle.chain.specs.declared.Chain.{Chain}
use Rattle.chain.specs.declared.Outcome.{Outcome}
use Rattle.run.proofs.Before.{none_before, refused_before}
use Rattle.run.proofs.Steps.{goes_on, stops, step_same}
use Rattle.run.specs.List.{listed_at}
use Rattle.run.specs.Run.{list_length, before_any, listed_outcome, noted, run_from, run_of}
use Rattle.demands.specs.Runs.{in_bytes, as_the_call}
use Rattle.demands.proofs.Performed.{none_left}

pub in_four_bytes : (e : Event) → listed_at (in_bytes e) 0 ≡ Ok e
unfolding listed_at
in_four_bytes e = read_as_written e

-- a sound chain, and room: nothing refuses the run before its event
none_refuses : (s : Chain) (bytes results : List ℕ) → sound s ≡ true → length bytes ≡ 4 → 2 ≤ length results → before_any s bytes results ≡ Ok tt
unfolding before_any
none_refuses s bytes results is four room = search arith

-- a chain that is not sound refuses both
run_refused : (s : Chain) (bytes results : List ℕ) → sound s ≡ false → before_any s bytes results ≡ Err NotSound
unfolding before_any
run_refused s bytes results is = simp is

call_refused : (e : Event) (s : Chain) → sound s ≡ false → event_of e s ≡ refused NotSound s
unfolding event_of verdict_of judged
call_refused e s is = simp is

pub one_event : (e : Event) (s : Chain) (bytes : List ℕ) (limit : ℕ) (results : List ℕ) → length bytes ≡ 4 → listed_at bytes 0 ≡ Ok e → 1 ≤ limit → 2 ≤ length results
    → run_of s bytes limit results ≡ as_the_call (event_of e s) results
unfolding refused
one_event e s bytes limit results four listed some room = by (sound s) refl
  where
    o : Outcome
    o = event_of e s

    is_listed : o ≡ listed_outcome (listed_at bytes 0) s
    is_listed = ap (λ (l : Listed). listed_outcome l s) (sym listed)

    one : min limit (list_length bytes) ≡ 1
    one = omega (arith, some, four)

    performed : (goes : Bool) → is_accepted (verdict_in o.answer) ≡ goes → run_from 1 bytes 0 s results ≡ as_the_call o results
    performed true on =
        goes_on 1 0 bytes 0 s results o refl is_listed on
        ∙ none_left bytes 1 o.chain (noted 0 (handed o.answer) results)
        ∙ simp (accepted_is (verdict_in o.answer) on)
    performed false off =
        stops 1 0 bytes 0 s results o refl is_listed off
        ∙ simp (off, step_same (Ok e) s off)

    by : (is_sound : Bool) → sound s ≡ is_sound → run_of s bytes limit results ≡ as_the_call o results
    by true is =
        none_before s bytes limit results (Ok tt) (sym (none_refuses s bytes results is four room)) refl
        ∙ ap (λ (left : ℕ). run_from left bytes 0 s results) one
        ∙ performed (is_accepted (verdict_in o.answer)) refl
    by false is =
        refused_before s bytes limit results (Err NotSound) (sym (run_refused s bytes results is)) refl
        ∙ ap (λ (o : Outcome). as_the_call o results) (sym (call_refused e s is))
