-- What an event hands back, from what it sees: whoever shows an event what it looks at in a sound chain has its verdict, and hands back what that says.
-- Assumes nothing.
use Rattle.std.specs.Prelude.{Ok, Err}
use mathlib.Core.Bool.{true}
use mathlib.Core.Path.{◌≡◌, ap, sym, ◌∙◌}
use Rattle.refusal.specs.declared.Refusal.{Refusal}
use Rattle.refusal.specs.Numbers.{Verdict}
use Rattle.event.specs.declared.Event.{Event}
use Rattle.decide.specs.Decided.{decided}
use Rattle.decide.specs.Refusals.{verdict_on}
use Rattle.decide.specs.Sound.{seen_sound}
use Rattle.decide.specs.declared.Seen.{Seen}
use Rattle.chain.specs.Apply.{decision}
use Rattle.chain.specs.Events.{accepted, refused, judged, event_of}
use Rattle.chain.specs.Seen.{seen_by}
use Rattle.chain.specs.Sound.{sound}
use Rattle.chain.specs.declared.Chain.{Chain}
use Rattle.chain.proofs.Passed.{sound_verdict}
use Rattle.chain.proofs.Soundness.{seen_sound_lem}

-- what is seen is sound
pub seen_asked : (e : Event) (s : Chain) (v : Seen) → v ≡ seen_by e s → sound s ≡ true → seen_sound v ≡ true
seen_asked e s v is here = ap seen_sound is ∙ seen_sound_lem s _ _ here

judged_by : (e : Event) (s : Chain) (v : Seen) (verdict : Verdict) → v ≡ seen_by e s → sound s ≡ true → verdict_on e v ≡ verdict → event_of e s ≡ judged verdict e s
unfolding event_of
judged_by e s v verdict is here told =
    ap (λ (w : Verdict). judged w e s) (sound_verdict e s here ∙ ap (verdict_on e) (sym is) ∙ told)

pub is_accepted_lem : (e : Event) (s : Chain) (v : Seen) → v ≡ seen_by e s → sound s ≡ true → verdict_on e v ≡ Ok tt → event_of e s ≡ accepted (decided e v) s
unfolding judged decision
is_accepted_lem e s v is here told =
    judged_by e s v (Ok tt) is here told ∙ ap (λ (v : Seen). accepted (decided e v) s) (sym is)

pub is_refused : (e : Event) (s : Chain) (v : Seen) (why : Refusal) → v ≡ seen_by e s → sound s ≡ true → verdict_on e v ≡ Err why → event_of e s ≡ refused why s
unfolding judged
is_refused e s v why is here told = judged_by e s v (Err why) is here told
