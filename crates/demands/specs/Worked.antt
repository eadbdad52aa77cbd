-- Waits of the third demand, computed: one in which the chip answers its seven other channels first and the eighth counted pulse answers the
-- request; the same behind two other chips; and one through falls that are all refused.
use Rattle.std.specs.Prelude.{true, false, List, [], ◌∷◌, ◌++◌, ◌≡◌, ℕ}
use Rattle.chain.specs.Fields.{chip_at}
use Rattle.chain.specs.Start.{start_of}
use Rattle.chain.specs.declared.Chain.{Chain}
use Rattle.event.specs.declared.Event.{Event}
use Rattle.event.specs.declared.Event.TheVariants.{Command, Data, Enable, Fall, Rise}
use Rattle.demands.specs.Along.{after, accepted_in}
use Rattle.demands.specs.Wait.{waits, answers_it, Waited, reaches, is_counted, others, pulses}

-- chip i rotating, armed, all unmasked and auto clear, all eight channels pending; its pointer is 7 from the start
abbrev pub ready : ℕ → List Event
ready i = Command i 0x81 ∷ Command i 0xA1 ∷ Command i 0x20 ∷ Command i 0xC0 ∷ Data i 0xFF ∷ Command i 0x50 ∷ []

unfoldable pub all_pending : Chain
all_pending = after (start_of 1 0).chain (ready 0)

abbrev pub pulse : List Event
pulse = Fall ∷ Rise ∷ []

abbrev pub seven_pulses : List Event
seven_pulses = pulse ++ pulse ++ pulse ++ pulse ++ pulse ++ pulse ++ pulse

abbrev pub eight_pulses : List Event
eight_pulses = pulse ++ seven_pulses

-- channel 7 waits through seven pulses, which answer 0 to 6 and all count; the eighth counts too, and answers it
pub record WorkedWait : Type 0 where
  pub waits_through : Waited all_pending 0 7 seven_pulses
  pub seven_others : others 0 7 all_pending seven_pulses ≡ 7
  pub seven_counted : pulses 0 all_pending seven_pulses ≡ 7
  pub still_waits : waits (chip_at (after all_pending seven_pulses) 0) 7 ≡ true
  pub eighth_counted : is_counted 0 Fall (after all_pending seven_pulses) ≡ true
  pub eighth_answers : answers_it 0 7 Fall (after all_pending seven_pulses) ≡ true

-- the same chip as the third of a chain: the first is polled and has a request, which it never answers; the second has one, which it answers first
unfoldable pub third_of_three : Chain
third_of_three =
    after (start_of 3 0).chain
    (Command 0 0x84 ∷ Command 0 0xA1 ∷ Command 0 0x20 ∷ Command 0 0x58
    ∷ Command 1 0xA1 ∷ Command 1 0x20 ∷ Command 1 0x58
    ∷ ready 2)

-- the first pulse does not reach the third chip; then it goes as with one chip alone
pub record BehindOthers : Type 0 where
  pub not_reached : reaches 2 third_of_three ≡ false
  pub waits_through : Waited third_of_three 2 7 eight_pulses
  pub seven_others : others 2 7 third_of_three eight_pulses ≡ 7
  pub seven_counted : pulses 2 third_of_three eight_pulses ≡ 7
  pub still_waits : waits (chip_at (after third_of_three eight_pulses) 2) 7 ≡ true
  pub eighth_counted : is_counted 2 Fall (after third_of_three eight_pulses) ≡ true
  pub eighth_answers : answers_it 2 7 Fall (after third_of_three eight_pulses) ≡ true

-- Enable In was low when IACK fell, and is high again: the pulse has stalled, and IACK is low still
unfoldable pub stalled : Chain
stalled = after all_pending (Enable 0 ∷ Fall ∷ Enable 1 ∷ [])

abbrev pub eight_falls : List Event
eight_falls = Fall ∷ Fall ∷ Fall ∷ Fall ∷ Fall ∷ Fall ∷ Fall ∷ Fall ∷ []

-- channel 7 waits through eight falls, each refused: a pulse that fell would reach the chip with its in-service register empty, but none does
pub record RefusedFalls : Type 0 where
  pub waits_through : Waited stalled 0 7 eight_falls
  pub would_reach : reaches 0 stalled ≡ true
  pub in_service_empty : (chip_at stalled 0).isr ≡ 0
  pub none_accepted : accepted_in stalled eight_falls ≡ 0
  pub none_counted : pulses 0 stalled eight_falls ≡ 0
