-- The event number: what an event does to it.
-- Assumes nothing.
use Rattle.std.specs.Prelude.{Ok, Err}
use native.Mathlib.Omega.{arith}
use mathlib.Core.Path.{◌≡◌, ap}
use Prim.Native.Nat.{ℕ, ◌+◌, ◌%◌}
use Rattle.refusal.proofs.Numbers.{not_zero}
use Rattle.refusal.specs.Numbers.{Verdict}
use Rattle.refusal.specs.Answers.{handed}
use Rattle.event.specs.declared.Event.{Event}
use Rattle.decide.specs.declared.Change.{Change}
use Rattle.chain.specs.Apply.{applied, decision, counted}
use Rattle.chain.specs.Events.{accepted, refused, judged, event_of}
use Rattle.chain.specs.Refusals.{verdict_of}
use Rattle.chain.specs.declared.Chain.{Chain}
use Rattle.chain.proofs.Rules.{chain_fields, applying}

-- what an event does besides counting itself leaves the number alone
pub applied_number : (c : Change) (s : Chain) → (applied c s).event ≡ s.event
unfolding applying
applied_number c s = search arith

judged_counts : (v : Verdict) (e : Event) (s : Chain) → (handed (judged v e s).answer).number ≡ 0 → (judged v e s).chain.event ≡ (s.event + 1) % 65536
unfolding judged accepted refused counted chain_fields
judged_counts (Err why) e s zero = absurd (not_zero why zero)
judged_counts (Ok tt) e s zero = ap (λ (n : ℕ). (n + 1) % 65536) (applied_number (decision e s) s)

-- an accepted event, one that hands back the number 0, adds one, modulo 65,536
pub number_counts : (e : Event) (s : Chain) → (handed (event_of e s).answer).number ≡ 0 → (event_of e s).chain.event ≡ (s.event + 1) % 65536
unfolding event_of
number_counts e s zero = judged_counts (verdict_of e s) e s zero
