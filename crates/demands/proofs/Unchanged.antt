-- What a refusal leaves as it was, proved: for an event, a start and the views by the verdict, for a run event by event.
-- Assumes nothing.
use mathlib.Core.Bool.{true, false}
use mathlib.Core.List.{List}
use mathlib.Core.Path.{◌≡◌, refl, ap, sym, ◌∙◌}
use Prim.Native.Nat.{ℕ, ◌+◌, ◌*◌, ◌≤◌, min}
use native.Mathlib.Omega.{arith}
use lib.ListN.{get_or, length}
use Rattle.refusal.specs.Numbers.{verdict_number, is_accepted, Verdict}
use Rattle.refusal.specs.Answers.{Handed, handed}
use Rattle.chain.specs.Events.{accepted, refused, judged, event_of}
use Rattle.chain.specs.Fields.{zero_chain}
use Rattle.chain.specs.Refusals.{verdict_of}
use Rattle.chain.specs.Start.{start_of}
use Rattle.chain.specs.declared.Chain.{Chain}
use Rattle.event.specs.declared.Event.{Event}
use Rattle.views.specs.Views.{register_view, pin_view}
use Rattle.run.proofs.Before as before_any_lem
use Rattle.run.proofs.Count.{no_more}
use Rattle.run.proofs.Steps.{goes_on, noted-length, run_through}
use Rattle.run.specs.List.{listed_at}
use Rattle.run.specs.Run.{Report, list_length, before_any, listed_outcome, noted, run_from, accepted_from, run_of}
use Rattle.demands.specs.Unchanged.{unrefused, Unchanged}
use Rattle.demands.proofs.Kept.{answers_zero}
use Rattle.demands.proofs.Performed.{noted_other, none_left}
use Rattle.demands.proofs.Rules.{no_table_lem, no_picture_lem}
use Rattle.demands.proofs.Runs.{whole, counted}

-- an event
as_given : (v : Verdict) (e : Event) (s : Chain) → ((handed (judged v e s).answer).number ≡ 0 → ⊥) → (judged v e s).chain ≡ s
unfolding judged accepted refused
as_given v e s other = search (arith, answers_zero)

no_byte : (v : Verdict) (e : Event) (s : Chain) → ((handed (judged v e s).answer).number ≡ 0 → ⊥)
    → ((handed (judged v e s).answer).drove ≡ 0) × ((handed (judged v e s).answer).byte ≡ 0)
unfolding judged accepted refused
no_byte v e s other = search arith

-- a start
no_start : (count fill : ℕ) → ((handed (start_of count fill).answer).number ≡ 0 → ⊥) → (start_of count fill).chain ≡ zero_chain
unfolding start_of
no_start count fill = search arith

-- a view: it is refused where its number is not 0
is_refused : (v : Verdict) → (verdict_number v ≡ 0 → ⊥) → is_accepted v ≡ false
is_refused v other = search arith

-- a run
from_length : (bytes : List ℕ) (left n : ℕ) (s : Chain) (results : List ℕ) → length (run_from left bytes n s results).results ≡ length results
from_length bytes =
    run_through bytes (λ n s results r k. length r.results ≡ length results)
    (λ n s results v. refl)
    (λ n s results r k on rest. rest ∙ noted-length n (handed (listed_outcome (listed_at bytes n) s).answer) results)

-- the n-th event's bytes stand below those of the events after it
noted-past : (n : ℕ) (h : Handed) (results : List ℕ) (k : ℕ) → 2 * (n + 1) ≤ k → get_or (noted n h results) k 0 ≡ get_or results k 0
noted-past n h results k l = noted_other n h results k (λ is. absurd (omega (arith, is))) (λ is. absurd (omega (arith, is)))

from_untouched : (bytes : List ℕ) (left n : ℕ) (s : Chain) (results : List ℕ) (i : ℕ) → 2 * (n + accepted_from left bytes n s) ≤ i
    → get_or (run_from left bytes n s results).results i 0 ≡ get_or results i 0
from_untouched bytes =
    run_through bytes (λ n s results r k. (i : ℕ) → 2 * (n + k) ≤ i → get_or r.results i 0 ≡ get_or results i 0)
    (λ n s results v i past. refl)
    (λ n s results r k on rest i past. rest i (omega arith) ∙ noted-past n (handed (listed_outcome (listed_at bytes n) s).answer) results i (omega arith))

from_kept : (bytes : List ℕ) (left n : ℕ) (s : Chain) (results : List ℕ)
    → run_from (accepted_from left bytes n s) bytes n s results ≡ unrefused (run_from left bytes n s results)
from_kept bytes =
    run_through bytes (λ n s results r k. run_from k bytes n s results ≡ unrefused r)
    (λ n s results v. none_left bytes n s results)
    (λ n s results r k on rest. goes_on (k + 1) k bytes n s results (listed_outcome (listed_at bytes n) s) (omega arith) refl on ∙ rest)

kept : (s : Chain) (bytes : List ℕ) (limit : ℕ) (results : List ℕ) → is_accepted (before_any s bytes results) ≡ true
    → run_of s bytes (run_of s bytes limit results).ran.accepted results ≡ unrefused (run_of s bytes limit results)
kept s bytes limit results h =
    let most : ℕ = min limit (list_length bytes) in
    let is : run_of s bytes limit results ≡ run_from most bytes 0 s results = before_any_lem.none_before s bytes limit results (before_any s bytes results) refl h in
    let all : (run_of s bytes limit results).ran.accepted ≡ accepted_from most bytes 0 s = ap (λ (r : Report). r.ran.accepted) is ∙ counted bytes most s results in
    let few : min (run_of s bytes limit results).ran.accepted (list_length bytes) ≡ accepted_from most bytes 0 s = omega (arith, all, no_more most bytes 0 s) in
    before_any_lem.none_before s bytes (run_of s bytes limit results).ran.accepted results (before_any s bytes results) refl h
    ∙ ap (λ left. run_from left bytes 0 s results) few
    ∙ from_kept bytes most 0 s results
    ∙ ap unrefused (sym is)

pub unchanged : Unchanged
unfolding event_of
unchanged =
    record {
      chain_as_given = λ e s other. as_given (verdict_of e s) e s other;
      no_byte = λ e s other. no_byte (verdict_of e s) e s other;
      no_start = no_start;
      no_table_lem = λ chip s other. no_table_lem s chip (is_refused (register_view chip s).verdict other);
      no_picture_lem = λ chip s other. no_picture_lem s chip (is_refused (pin_view chip s).verdict other);
      refused_before = λ s bytes limit results h. before_any_lem.refused_before s bytes limit results (before_any s bytes results) refl h;
      accepted_kept = kept;
      length_kept = λ s bytes limit results.
          whole (λ r. length r.results ≡ length results) s bytes limit results _ refl
          (from_length bytes (min limit (list_length bytes)) 0 s results)
          refl;
      rest_untouched = λ s bytes limit results k.
          whole (λ r. 2 * r.ran.accepted ≤ k → get_or r.results k 0 ≡ get_or results k 0) s bytes limit results _ refl
          (λ l. from_untouched bytes (min limit (list_length bytes)) 0 s results k (omega (arith, counted bytes (min limit (list_length bytes)) s results)))
          (λ l. refl);
    }
