-- The eight events (the rules paper, "The eight events" and "Numbers handed back"): what each hands back.
use Rattle.std.specs.Prelude.{Ok, Err}
use Rattle.refusal.specs.declared.Refusal.{Refusal}
use Rattle.refusal.specs.Numbers.{Verdict}
use Rattle.event.specs.declared.Event.{Event}
use Rattle.decide.specs.declared.Change.{Change}
use Rattle.chain.specs.Apply.{applied, decision, counted}
use Rattle.chain.specs.Refusals.{verdict_of}
use Rattle.chain.specs.declared.Chain.{Chain}
use Rattle.chain.specs.declared.Outcome.{Outcome}

-- what an accepted event hands back: its answer, and the chain with what it does applied and counted
unfoldable pub accepted : Change → Chain → Outcome
accepted c s = record { answer = c.answer; chain = counted (applied c s) }

-- refused events hand back the chain as given
unfoldable pub refused : Refusal → Chain → Outcome
refused why s = record { answer = Err why; chain = s }

unfoldable pub judged : Verdict → Event → Chain → Outcome
judged (Err why) e s = refused why s
judged (Ok tt) e s = accepted (decision e s) s

unfoldable pub event_of : Event → Chain → Outcome
event_of e s = judged (verdict_of e s) e s
