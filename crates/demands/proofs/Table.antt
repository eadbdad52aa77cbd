-- Every call goes by the one table of numbers, proved: the tests of each call, taken in their order, are the entries of the table that can apply to it.
-- Assumes nothing.
use Rattle.std.specs.Prelude.{Option}
use mathlib.Core.Bool.{Bool, true, false, not}
use mathlib.Core.List.{List, [], ◌∷◌, ◌++◌}
use mathlib.Core.Path.{◌≡◌, refl, ap, sym, subst, ◌∙◌}
use Prim.Native.Nat.{ℕ, zero, suc, ◌+◌, ◌*◌, ◌≤◌, ◌<◌, min}
use native.Mathlib.Omega.{arith}
use lib.Dec.{eqb, ltb}
use lib.ListN.{get_or}
use borrow.Author.Tests.{le-leb, lt-leb, lt-ltb, le-ltb}
use Rattle.figure4.proofs.Figure4.{undefined_codes}
use Rattle.search.proofs.Order.{candidate_lt}
use Rattle.search.specs.Candidate.{candidate_number, channel_of, search_number}
use Rattle.refusal.specs.Numbers.{refusal_number, verdict_number, is_accepted, first_of_list, Verdict}
use Rattle.refusal.specs.declared.Refusal.{Refusal}
use Rattle.refusal.specs.Answers.{verdict_in, handed}
use Rattle.chain.specs.Events.{accepted, refused, judged, event_of}
use Rattle.decide.specs.Refusals.{checks}
use Rattle.chain.specs.Refusals.{not_sound, verdict_of}
use Rattle.chain.specs.Seen.{seen_at, seen_by}
use Rattle.views.specs.Views.{register_view, pin_view}
use Rattle.chain.specs.Sound.{count_sound}
use Rattle.chain.specs.Start.{start_of}
use Rattle.chain.specs.declared.Chain.{Chain}
use Rattle.event.specs.declared.Event.{Event}
use Rattle.event.specs.declared.Event.TheVariants.{Command, Data, Status, Read, Line, Enable, Fall, Rise}
use Rattle.chain.specs.declared.Outcome.{Outcome}
use Rattle.run.proofs.Before.{refused_before, none_before}
use Rattle.run.proofs.Steps.{goes_on, stops}
use Rattle.event.specs.Numbers.{listed, numbered, in_numbers}
use Rattle.run.specs.List.{listed_at}
use Rattle.run.specs.Run.{Report, list_length, before_any, listed_outcome, noted, run_from, run_of}
use Rattle.demands.specs.Table.{Entry, given, event_entries, run_entries, listed_entries, last_entries, ByTheTable}
use Rattle.demands.proofs.Kept.{answer_number, answers_zero}

-- tests, each with its refusal, as entries of the table
abbrev pub entries : List (Bool × Refusal) → List Entry
entries [] = []
entries (check ∷ checks) = (refusal_number check.1, check.0) ∷ entries checks

pub first-given : (l : List (Bool × Refusal)) → verdict_number (first_of_list l) ≡ given (entries l)
first-given [] = refl
first-given ((true, why) ∷ l) = refl
first-given ((false, why) ∷ l) = first-given l

-- an event
judged_number : (v : Verdict) (e : Event) (s : Chain) → (handed (judged v e s).answer).number ≡ verdict_number v
unfolding judged accepted refused
judged_number v e s = search (arith, answers_zero)

verdict_given : (e : Event) (s : Chain) → given (entries (not_sound s ∷ checks e (seen_by e s))) ≡ given (event_entries (in_numbers e) s)
unfolding seen_at
verdict_given e s = search (arith, undefined_codes)

event_number : (e : Event) (s : Chain) → (handed (event_of e s).answer).number ≡ given (event_entries (in_numbers e) s)
unfolding event_of verdict_of
event_number e s = judged_number (verdict_of e s) e s ∙ first-given (not_sound s ∷ checks e (seen_by e s)) ∙ verdict_given e s

-- a start
start_number : (count fill : ℕ) → (handed (start_of count fill).answer).number ≡ given ((1, not (count_sound count)) ∷ [])
unfolding start_of
start_number count fill = search arith

-- four bytes of a list: one of the eight events, whatever stands in the bytes that it does not use, or a kind outside 1 to 8
abbrev Told : ℕ → ℕ → ℕ → ℕ → Chain → Type 0
Told kind chip channel value s =
    verdict_number (verdict_in (listed_outcome (listed kind chip channel value) s).answer) ≡ given (listed_entries (numbered kind chip channel value) s)

known_number : (e : Event) (s : Chain) → verdict_number (verdict_in (event_of e s).answer) ≡ given (event_entries (in_numbers e) s)
known_number e s = answer_number (event_of e s).answer ∙ event_number e s

one_of_eight : (kind chip channel value : ℕ) (s : Chain) → kind ≤ 8 → Told kind chip channel value s
one_of_eight zero chip channel value s h = refl
one_of_eight (suc zero) chip channel value s h = known_number (Command chip value) s
one_of_eight (suc (suc zero)) chip channel value s h = known_number (Data chip value) s
one_of_eight (suc (suc (suc zero))) chip channel value s h = known_number (Status chip) s
one_of_eight (suc (suc (suc (suc zero)))) chip channel value s h = known_number (Read chip) s
one_of_eight (suc (suc (suc (suc (suc zero))))) chip channel value s h = known_number (Line chip channel value) s
one_of_eight (suc (suc (suc (suc (suc (suc zero)))))) chip channel value s h = known_number (Enable value) s
one_of_eight (suc (suc (suc (suc (suc (suc (suc zero))))))) chip channel value s h = known_number Fall s
one_of_eight (suc (suc (suc (suc (suc (suc (suc (suc zero)))))))) chip channel value s h = known_number Rise s
one_of_eight (suc (suc (suc (suc (suc (suc (suc (suc (suc kind))))))))) chip channel value s h = absurd (omega arith)

outside : (kind chip channel value : ℕ) (s : Chain) → 8 < kind → Told kind chip channel value s
outside kind chip channel value s h = search (arith, le-leb, lt-leb)

listed_number : (kind chip channel value : ℕ) (s : Chain) → Told kind chip channel value s
listed_number kind chip channel value s = search (arith, one_of_eight, outside)

from_number : (left : ℕ) (bytes : List ℕ) (n : ℕ) (s : Chain) (results : List ℕ)
    → verdict_number (run_from left bytes n s results).ran.verdict ≡ given (last_entries bytes (n + left) (run_from left bytes n s results))
unfolding run_from listed_at
from_number zero bytes n s results = rw (le-ltb n (n + 0) (omega arith)) refl
from_number (suc left) bytes n s results = by (is_accepted (verdict_in o.answer)) refl (from_number left bytes (n + 1) o.chain (noted n (handed o.answer) results))
  where
    o : Outcome
    o = listed_outcome (listed_at bytes n) s

    rest : Report
    rest = run_from left bytes (n + 1) o.chain (noted n (handed o.answer) results)

    Ends : Report → Type 0
    Ends r = verdict_number r.ran.verdict ≡ given (last_entries bytes (n + suc left) r)

    by : (goes : Bool) → is_accepted (verdict_in o.answer) ≡ goes
        → verdict_number rest.ran.verdict ≡ given (last_entries bytes (n + 1 + left) rest)
        → Ends (run_from (suc left) bytes n s results)
    by true on later =
        subst Ends (sym (goes_on (suc left) left bytes n s results o refl refl on)) (later ∙ ap (λ (most : ℕ). given (last_entries bytes most rest)) (omega arith))
    by false off later =
        subst Ends (sym (stops (suc left) left bytes n s results o refl refl off))
        (rw (lt-ltb n (n + suc left) (omega arith)) (listed_number (get_or bytes (4 * n) 0) (get_or bytes (4 * n + 1) 0) (get_or bytes (4 * n + 2) 0) (get_or bytes (4 * n + 3) 0) s))

run_number : (s : Chain) (bytes : List ℕ) (limit : ℕ) (results : List ℕ)
    → verdict_number (run_of s bytes limit results).ran.verdict ≡ given (run_entries s bytes results ++ last_entries bytes (min limit (list_length bytes)) (run_of s bytes limit results))
unfolding before_any
run_number s bytes limit results = search (arith, none_before, from_number, refused_before)

-- the C search
not_254 : (c : Option ℕ) → channel_of c < 8 → eqb (candidate_number c) 254 ≡ false
not_254 c h = search arith

search_number_lem : (irr imr isr mode pointer : ℕ) → eqb (search_number irr imr isr mode pointer) 254 ≡ ltb 7 pointer
unfolding search_number
search_number_lem irr imr isr mode pointer = search (arith, not_254, candidate_lt)

pub by_the_table : ByTheTable
unfolding register_view pin_view
by_the_table = search (arith, start_number, event_number, run_number, search_number_lem)
