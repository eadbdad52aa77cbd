-- What a run counts, proved: each event by event, then for the whole run.
-- Assumes nothing.
use Rattle.std.specs.Prelude.{Ok, Err}
use mathlib.Core.Bool.{Bool, true, false}
use mathlib.Core.List.{List}
use mathlib.Core.Path.{◌≡◌, refl, ap, sym, ◌∙◌, subst}
use Prim.Native.Nat.{ℕ, ◌+◌, ◌%◌, ◌<◌, min}
use native.Mathlib.Nat.{mod-lt}
use native.Mathlib.Omega.{arith}
use lib.Dec.{eqb, lit<}
use borrow.Author.Tests.{eqb-true}
use Rattle.refusal.proofs.Numbers.{not_both}
use Rattle.refusal.specs.Numbers.{is_accepted, Answer}
use Rattle.chain.proofs.Number as number
use Rattle.refusal.specs.Answers.{verdict_in, handed}
use Rattle.chain.specs.Sound.{sound}
use Rattle.chain.specs.declared.Chain.{Chain}
use Rattle.run.proofs.Before as before_any_lem
use Rattle.run.proofs.Count as count
use Rattle.run.proofs.Steps.{step_sound, run_through}
use Rattle.run.specs.List.{listed_at}
use Rattle.run.specs.Run.{Report, list_length, before_any, listed_outcome, stopped, run_from, accepted_from, run_of}
use Rattle.event.specs.Numbers.{Listed}
use Rattle.demands.proofs.Kept.{no_event}
use Rattle.demands.proofs.OneEvent.{in_four_bytes, one_event}
use Rattle.demands.proofs.Performed.{performed}
use Rattle.demands.specs.Runs.{Runs}

pub zero_is_accepted : (a : Answer) → is_accepted (verdict_in a) ≡ eqb (handed a).number 0
zero_is_accepted a = search arith

step_number : (l : Listed) (s : Chain) → is_accepted (verdict_in (listed_outcome l s).answer) ≡ true → (listed_outcome l s).chain.event ≡ (s.event + 1) % 65536
step_number (Ok e) s h = number.number_counts e s (eqb-true _ 0 (sym (zero_is_accepted (listed_outcome (Ok e) s).answer) ∙ h))
step_number (Err _) s h = not_both h

one_more : (n m a : ℕ) → m ≡ (n + 1) % 65536 → (m + a) % 65536 ≡ (n + (a + 1)) % 65536
one_more n m a is = omega (arith, is)

from_number : (bytes : List ℕ) (left n : ℕ) (s : Chain) (results : List ℕ) → s.event < 65536
    → (run_from left bytes n s results).ran.chain.event ≡ (s.event + accepted_from left bytes n s) % 65536
from_number bytes =
    run_through bytes (λ n s results r k. s.event < 65536 → r.ran.chain.event ≡ (s.event + k) % 65536)
    (λ n s results v h. no_event s.event h)
    (λ n s results r k on rest h.
    let is : (listed_outcome (listed_at bytes n) s).chain.event ≡ (s.event + 1) % 65536 = step_number (listed_at bytes n) s on in
    rest (subst (λ (m : ℕ). m < 65536) (sym is) (mod-lt (s.event + 1) (lit< tt))) ∙ one_more s.event (listed_outcome (listed_at bytes n) s).chain.event k is)

from_sound : (bytes : List ℕ) (left n : ℕ) (s : Chain) (results : List ℕ) → sound s ≡ true → sound (run_from left bytes n s results).ran.chain ≡ true
from_sound bytes =
    run_through bytes (λ n s results r k. sound s ≡ true → sound r.ran.chain ≡ true)
    (λ n s results v h. h)
    (λ n s results r k on rest h. rest (step_sound (listed_at bytes n) s h))

-- the whole run: refused before any event, or its events
pub whole : (P : Report → Type 0) (s : Chain) (bytes : List ℕ) (limit : ℕ) (results : List ℕ) (b : Bool) → is_accepted (before_any s bytes results) ≡ b
    → P (run_from (min limit (list_length bytes)) bytes 0 s results)
    → P (stopped (before_any s bytes results) 0 s results)
    → P (run_of s bytes limit results)
whole P s bytes limit results true h on off = subst P (sym (before_any_lem.none_before s bytes limit results (before_any s bytes results) refl h)) on
whole P s bytes limit results false h on off = subst P (sym (before_any_lem.refused_before s bytes limit results (before_any s bytes results) refl h)) off

pub counted : (bytes : List ℕ) (left : ℕ) (s : Chain) (results : List ℕ) → (run_from left bytes 0 s results).ran.accepted ≡ accepted_from left bytes 0 s
counted bytes left s results = count.accepted_count bytes left 0 s results ∙ omega arith

pub runs_keep : Runs
runs_keep =
    record {
      accepted_count = λ s bytes limit results h.
          ap (λ (r : Report). r.ran.accepted) (before_any_lem.none_before s bytes limit results (before_any s bytes results) refl h)
          ∙ counted bytes (min limit (list_length bytes)) s results;
      each_performed = performed;
      in_four_bytes = in_four_bytes;
      one_event = one_event;
      number_counts = λ s bytes limit results h.
          whole (λ r. r.ran.chain.event ≡ (s.event + r.ran.accepted) % 65536) s bytes limit results _ refl
          (from_number bytes (min limit (list_length bytes)) 0 s results h
          ∙ ap (λ (a : ℕ). (s.event + a) % 65536) (sym (counted bytes (min limit (list_length bytes)) s results)))
          (no_event s.event h);
      sound_kept = λ s bytes limit results h.
          whole (λ r. sound r.ran.chain ≡ true) s bytes limit results _ refl
          (from_sound bytes (min limit (list_length bytes)) 0 s results h)
          h;
      zero_is_accepted = zero_is_accepted;
    }
