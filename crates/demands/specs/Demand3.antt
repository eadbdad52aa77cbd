-- The third demand: in rotating priority no request is passed over for long. Its words (a wait, an answer for another channel, a first pulse that
-- reaches the chip with its in-service register empty) are defined in Wait, over the rules of the model.
--
-- It speaks of every sound chain, every list of events, refused ones included, every chip in the count and every channel.
use Rattle.std.specs.Prelude.{true, false, List, ◌≡◌, ℕ, ◌≤◌}
use Rattle.chain.specs.Events.{event_of}
use Rattle.chain.specs.Fields.{chip_at}
use Rattle.chain.specs.declared.Chain.{Chain}
use Rattle.event.specs.declared.Event.{Event}
use Rattle.demands.specs.Along.{after}
use Rattle.demands.specs.Needed.{Needed}
use Rattle.demands.specs.Wait.{waits, resets, Waited, answers_it, others, is_counted, pulses}
use Rattle.demands.specs.Worked.{WorkedWait, BehindOthers, RefusedFalls}

pub record Demand3 : Type 0 where
  -- in a wait, at most seven acknowledges are answered by the chip for other channels than the one that waits
  pub at_most_seven : (s : Chain) (i channel : ℕ) (es : List Event) → Waited s i channel es → others i channel s es ≤ 7
  -- at most seven first pulses that reach the chip with its in-service register empty leave the request waiting
  pub no_eighth : (s : Chain) (i channel : ℕ) (es : List Event) → Waited s i channel es → pulses i s es ≤ 7
  -- so the eighth, at the latest, answers it
  pub by_the_eighth : (s : Chain) (i channel : ℕ) (es : List Event) → Waited s i channel es → pulses i s es ≡ 7
      → (e : Event) → waits (chip_at (after s es) i) channel ≡ true → is_counted i e (after s es) ≡ true
      → answers_it i channel e (after s es) ≡ true
  -- neither bound can be made less: seven others are answered first, and the eighth counted pulse answers the request
  pub tight : WorkedWait
  -- also behind other chips, the first of them polled
  pub behind_others : BehindOthers
  -- a refused fall is no first pulse, and no number of them ends a wait
  pub refused_falls : RefusedFalls
  -- no condition of these bounds can be left out: for each a list of events that would break one of them
  pub needed : Needed
  -- but for the one that no event resets the chip, which others make sure of: after a reset the chip is disarmed, so the request waits no longer
  pub reset_ends : (e : Event) (s : Chain) (i channel : ℕ) → resets i e s ≡ true → waits (chip_at (event_of e s).chain i) channel ≡ false
