-- What a run does and counts (the rules paper, "Views and runs"). What a refused one leaves as it was: Unchanged.
use Rattle.std.specs.Prelude.{Ok, Bool, true, cond, List, [], ◌∷◌, ◌≡◌, ℕ, ◌+◌, ◌*◌, ◌%◌, ◌≤◌, ◌<◌, min, eqb, get_or, length}
use Rattle.bits.specs.Below.{digit}
use Rattle.refusal.specs.Numbers.{is_accepted, Answer}
use Rattle.refusal.specs.Answers.{verdict_in, handed}
use Rattle.event.specs.Numbers.{in_numbers}
use Rattle.event.specs.declared.Event.{Event}
use Rattle.chain.specs.Events.{event_of}
use Rattle.chain.specs.Sound.{sound}
use Rattle.chain.specs.declared.Chain.{Chain}
use Rattle.chain.specs.declared.Outcome.{Outcome}
use Rattle.run.specs.List.{listed_at}
use Rattle.run.specs.Run.{Report, list_length, before_any, listed_outcome, noted, stopped, accepted_from, run_of}

-- the n-th event of a list, performed on one chain and leaving another, and its two bytes in the results: 1 and the byte driven or read, or 0 and 0
pub record Performed (bytes : List ℕ) (n : ℕ) (before next : Chain) (results : List ℕ) : Type 0 where
  pub chain : next ≡ (listed_outcome (listed_at bytes n) before).chain
  pub drove : get_or results (2 * n) 0 ≡ (handed (listed_outcome (listed_at bytes n) before).answer).drove
  pub byte : get_or results (2 * n + 1) 0 ≡ (handed (listed_outcome (listed_at bytes n) before).answer).byte

-- four bytes of an event, 0 where it uses none
abbrev pub in_bytes : Event → List ℕ
in_bytes e = (in_numbers e).kind ∷ (in_numbers e).chip ∷ (in_numbers e).channel ∷ (in_numbers e).value ∷ []

-- what a run reports that does what one call has done: its verdict, one event accepted or none, its chain, and the two bytes of an accepted event in the results
abbrev pub as_the_call : Outcome → List ℕ → Report
as_the_call o results =
    let ok : Bool = is_accepted (verdict_in o.answer) in
    stopped (verdict_in o.answer) (digit ok) o.chain (cond ok (noted 0 (handed o.answer) results) results)

pub record Runs : Type 0 where
  -- a run that is not refused before any event accepts the events before the limit, the end or the first refusal
  pub accepted_count : (s : Chain) (bytes : List ℕ) (limit : ℕ) (results : List ℕ) → is_accepted (before_any s bytes results) ≡ true
      → (run_of s bytes limit results).ran.accepted ≡ accepted_from (min limit (list_length bytes)) bytes 0 s
  -- each of them is performed on the chain that those before it leave: the chain of the run that is limited to them
  pub each_performed : (s : Chain) (bytes : List ℕ) (limit : ℕ) (results : List ℕ) (n : ℕ) → n < (run_of s bytes limit results).ran.accepted
      → Performed bytes n (run_of s bytes n results).ran.chain (run_of s bytes (n + 1) results).ran.chain (run_of s bytes limit results).results
  -- every event has its four bytes; and a run of one event, whatever stands in the bytes that it does not use, with room for its two results, does what the
  -- event's own call does: the two ways in cannot part
  pub in_four_bytes : (e : Event) → listed_at (in_bytes e) 0 ≡ Ok e
  pub one_event : (e : Event) (s : Chain) (bytes : List ℕ) (limit : ℕ) (results : List ℕ) → length bytes ≡ 4 → listed_at bytes 0 ≡ Ok e → 1 ≤ limit → 2 ≤ length results
      → run_of s bytes limit results ≡ as_the_call (event_of e s) results
  -- the event number is the number before plus the accepted events, modulo 65,536
  pub number_counts : (s : Chain) (bytes : List ℕ) (limit : ℕ) (results : List ℕ) → s.event < 65536
      → (run_of s bytes limit results).ran.chain.event ≡ (s.event + (run_of s bytes limit results).ran.accepted) % 65536
  -- a sound chain stays sound
  pub sound_kept : (s : Chain) (bytes : List ℕ) (limit : ℕ) (results : List ℕ) → sound s ≡ true → sound (run_of s bytes limit results).ran.chain ≡ true
  -- an event is accepted exactly if its answer hands back the number 0
  pub zero_is_accepted : (a : Answer) → is_accepted (verdict_in a) ≡ eqb (handed a).number 0
