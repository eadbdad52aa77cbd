-- A run (the rules paper, "Views and runs"): it stops at the limit, the end or the first refusal, and keeps what it accepted.
use Rattle.std.specs.Prelude.{Ok, Err, Bool, not, cond, List, [], ◌∷◌, ℕ, zero, suc, ◌+◌, ◌*◌, ◌/◌, ◌%◌, min, eqb, ltb, length, set}
use Rattle.refusal.specs.Numbers.{is_accepted, first_of_list}
use Rattle.refusal.specs.declared.Refusal.{Refusal}
use Rattle.refusal.specs.declared.Refusal.TheVariants.{BrokenEvent, ShortResults, UnknownKind}
use Rattle.refusal.specs.Numbers.{Verdict}
use Rattle.refusal.specs.Answers.{verdict_in, Handed, handed}
use Rattle.chain.specs.Events.{event_of}
use Rattle.chain.specs.Refusals.{not_sound}
use Rattle.refusal.specs.Numbers.{Answer}
use Rattle.chain.specs.declared.Chain.{Chain}
use Rattle.chain.specs.declared.Outcome.{Outcome}
use Rattle.run.specs.List.{listed_at}
use Rattle.event.specs.Numbers.{Listed}
use Rattle.run.specs.declared.Ran.{Ran}

-- what a run hands back, and its result buffer afterwards
pub record Report : Type 0 where
  pub ran : Ran
  pub results : List ℕ

-- the listed events: four bytes each
abbrev pub list_length : List ℕ → ℕ
list_length bytes = length bytes / 4

-- 10: event bytes not a multiple of four
abbrev pub broken_event : ℕ → Bool × Refusal
broken_event n = (not (eqb (n % 4) 0), BrokenEvent)

-- 11: result buffer under two bytes per listed event, whatever the limit
abbrev pub short_results : ℕ → ℕ → Bool × Refusal
short_results n room = (ltb room (2 * (n / 4)), ShortResults)

-- what a run takes before any event
unfoldable pub before_any : Chain → List ℕ → List ℕ → Verdict
before_any s bytes results = first_of_list (not_sound s ∷ broken_event (length bytes) ∷ short_results (length bytes) (length results) ∷ [])

-- a listed event: 12, kind outside 1 to 8, before the event's own refusals
abbrev pub listed_outcome : Listed → Chain → Outcome
listed_outcome (Ok e) s = event_of e s
listed_outcome (Err _) s = record { answer = Err UnknownKind; chain = s }

-- the n-th accepted event's two bytes: 1 and the byte driven or read, or 0 and 0
abbrev pub noted : ℕ → Handed → List ℕ → List ℕ
noted n h results = set (set results (2 * n) h.drove) (2 * n + 1) h.byte

-- what is handed back where a run stops, n events accepted
abbrev pub stopped : Verdict → ℕ → Chain → List ℕ → Report
stopped verdict n s results = record { ran = record { verdict = verdict; accepted = n; chain = s }; results = results }

-- from the n-th event on, with so many left before the limit or the end: after an accepted event the run goes on, at a refusal it stops
unfoldable pub run_from : ℕ → List ℕ → ℕ → Chain → List ℕ → Report
run_from zero bytes n s results = stopped (Ok tt) n s results
run_from (suc left) bytes n s results =
    let o : Outcome = listed_outcome (listed_at bytes n) s in
    cond (is_accepted (verdict_in o.answer))
    (run_from left bytes (n + 1) o.chain (noted n (handed o.answer) results))
    (stopped (verdict_in o.answer) n s results)

-- how many events are accepted before the limit, the end or the first refusal
unfoldable pub accepted_from : ℕ → List ℕ → ℕ → Chain → ℕ
accepted_from zero bytes n s = 0
accepted_from (suc left) bytes n s =
    let o : Outcome = listed_outcome (listed_at bytes n) s in
    cond (is_accepted (verdict_in o.answer)) (accepted_from left bytes (n + 1) o.chain + 1) 0

-- the run: 1, 10 and 11 before any event
unfoldable pub run_of : Chain → List ℕ → ℕ → List ℕ → Report
run_of s bytes limit results =
    cond (is_accepted (before_any s bytes results))
    (run_from (min limit (list_length bytes)) bytes 0 s results)
    (stopped (before_any s bytes results) 0 s results)
