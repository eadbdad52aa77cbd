-- What is decided is never a refusal: its answer tells that it is accepted.
-- Assumes nothing.
use Rattle.std.specs.Prelude.{Some, None, Ok}
use mathlib.Core.Bool.{Bool, true, false}
use mathlib.Core.Path.{◌≡◌, refl}
use lib.Dec.{eqb}
use Rattle.refusal.specs.Answers.{verdict_in}
use Rattle.event.specs.declared.Event.{Event}
use Rattle.event.specs.declared.Event.TheVariants.{Command, Data, Status, Read, Line, Enable, Fall, Rise}
use Rattle.response.specs.Held.{ends_response}
use Rattle.response.specs.declared.Reply.{Reply}
use Rattle.response.specs.Held.{Response}
use Rattle.decide.specs.Decided.{ending, decided}
use Rattle.decide.specs.Pulse.{selected_by, driving, first_pulse, fallen, risen_after, risen}
use Rattle.decide.specs.declared.Change.{Change}
use Rattle.decide.specs.declared.Seen.{Seen}
use Rattle.decide.proofs.Rules.{changes}

-- a change whose answer is no refusal
abbrev Tells : Change → Type 0
Tells c = verdict_in c.answer ≡ Ok tt

first_tells : (found : Response) (v : Seen) → Tells (first_pulse found v)
unfolding changes driving first_pulse
first_tells None v = refl
first_tells (Some r) v = refl

fallen_tells : (response : Response) (v : Seen) → Tells (fallen response v)
unfolding changes driving fallen
fallen_tells None v = first_tells (selected_by v) v
fallen_tells (Some r) v = refl

after_tells : (last : Bool) (r : Reply) (v : Seen) → Tells (risen_after last r v)
unfolding changes risen_after
after_tells true r v = refl
after_tells false r v = refl

risen_tells : (response : Response) (v : Seen) → Tells (risen response v)
unfolding changes risen
risen_tells None v = refl
risen_tells (Some r) v = after_tells (eqb r.delivered r.length) r v

ending_tells : (ends : Bool) (v : Seen) (c : Change) → Tells c → Tells (ending ends v c)
unfolding changes
ending_tells true v c h = h
ending_tells false v c h = h

pub decided_tells : (e : Event) (v : Seen) → verdict_in (decided e v).answer ≡ Ok tt
unfolding changes decided
decided_tells (Command i code) v = ending_tells (ends_response v.at code v.response) v _ refl
decided_tells (Data i byte) v = refl
decided_tells (Status i) v = refl
decided_tells (Read i) v = refl
decided_tells (Line i channel level) v = refl
decided_tells (Enable level) v = refl
decided_tells Fall v = fallen_tells v.response v
decided_tells Rise v = risen_tells v.response v
