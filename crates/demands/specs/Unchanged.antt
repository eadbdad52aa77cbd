-- What a refusal leaves as it was (the rules paper, "Numbers handed back"): the chain, and every byte of a lent buffer.
use Rattle.std.specs.Prelude.{Ok, true, false, List, ◌≡◌, ℕ, ◌*◌, ◌≤◌, get_or, length}
use Rattle.refusal.specs.Numbers.{verdict_number, is_accepted}
use Rattle.refusal.specs.Answers.{handed}
use Rattle.views.specs.Views.{register_view, pin_view}
use Rattle.chain.specs.Events.{event_of}
use Rattle.chain.specs.Fields.{zero_chain}
use Rattle.chain.specs.Start.{start_of}
use Rattle.chain.specs.declared.Chain.{Chain}
use Rattle.event.specs.declared.Event.{Event}
use Rattle.run.specs.Run.{Report, before_any, stopped, run_of}

-- a report that is the same but for its refusal
abbrev pub unrefused : Report → Report
unrefused r = stopped (Ok tt) r.ran.accepted r.ran.chain r.results

pub record Unchanged : Type 0 where
  -- a refused event hands back the chain as given, and no byte
  pub chain_as_given : (e : Event) (s : Chain) → ((handed (event_of e s).answer).number ≡ 0 → ⊥) → (event_of e s).chain ≡ s
  pub no_byte : (e : Event) (s : Chain) → ((handed (event_of e s).answer).number ≡ 0 → ⊥)
      → ((handed (event_of e s).answer).drove ≡ 0) × ((handed (event_of e s).answer).byte ≡ 0)
  -- a refused start hands back a chain of count 0, all zero, without destination or response
  pub no_start : (count fill : ℕ) → ((handed (start_of count fill).answer).number ≡ 0 → ⊥) → (start_of count fill).chain ≡ zero_chain
  -- a refused view has all its fields 0
  pub no_table_lem : (chip : ℕ) (s : Chain) → (verdict_number (register_view chip s).verdict ≡ 0 → ⊥)
      → (register_view chip s).table ≡ record { event = 0; irr = 0; isr = 0; imr = 0; acr = 0; mode = 0; status = 0; waiting = 0 }
  pub no_picture_lem : (chip : ℕ) (s : Chain) → (verdict_number (pin_view chip s).verdict ≡ 0 → ⊥)
      → (pin_view chip s).picture ≡ record { event = 0; ei = 0; eo = 0; gint = 0; rip = 0; pause = 0; iack = 0 }
  -- a run that is refused before any event hands back the chain and the results as given, and accepts none
  pub refused_before : (s : Chain) (bytes : List ℕ) (limit : ℕ) (results : List ℕ) → is_accepted (before_any s bytes results) ≡ false
      → run_of s bytes limit results ≡ stopped (before_any s bytes results) 0 s results
  -- one that is refused at an event keeps the accepted ones and nothing more: limited to those that it accepts, it does the same and is not refused
  pub accepted_kept : (s : Chain) (bytes : List ℕ) (limit : ℕ) (results : List ℕ) → is_accepted (before_any s bytes results) ≡ true
      → run_of s bytes (run_of s bytes limit results).ran.accepted results ≡ unrefused (run_of s bytes limit results)
  -- the results keep their length, and past two bytes per accepted event they are untouched
  pub length_kept : (s : Chain) (bytes : List ℕ) (limit : ℕ) (results : List ℕ) → length (run_of s bytes limit results).results ≡ length results
  pub rest_untouched : (s : Chain) (bytes : List ℕ) (limit : ℕ) (results : List ℕ) (k : ℕ)
      → 2 * (run_of s bytes limit results).ran.accepted ≤ k
      → get_or (run_of s bytes limit results).results k 0 ≡ get_or results k 0
