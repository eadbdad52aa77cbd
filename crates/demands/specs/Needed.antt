-- Why each condition of the third demand stands there: for each a list of events that would break a bound if it were left out. All computed. The request is one on
-- channel 7.
use Rattle.std.specs.Prelude.{Bool, false, not, ◌&&◌, List, [], ◌∷◌, ◌++◌, ◌≡◌, ℕ, length}
use Rattle.bits.specs.Byte.{bit, is_waiting}
use Rattle.event.specs.declared.Event.{Event}
use Rattle.event.specs.declared.Event.TheVariants.{Command, Enable}
use Rattle.chip.specs.Status.{is_armed, is_polled, is_rotating}
use Rattle.chip.specs.declared.Chip.{Chip}
use Rattle.chain.specs.Fields.{chip_at}
use Rattle.chain.specs.Seen.{selected}
use Rattle.chain.specs.Start.{start_of}
use Rattle.chain.specs.declared.Chain.{Chain}
use Rattle.demands.specs.Along.{after, along}
use Rattle.demands.specs.Wait.{is_pulse, is_first_pulse, is_for_another, answers_it, resets, is_wait, Waited, earlier_armed, earlier_silent, reaches, isr_empty, others, pulses}
use Rattle.demands.specs.Worked.{ready, all_pending, pulse, eight_pulses}

-- A counted pulse, but for one condition: Enable In, earlier chips armed, earlier chips silent, nothing in service, a first pulse
abbrev pub besides_enable : ℕ → Event → Chain → Bool
besides_enable i e s = is_first_pulse e s && earlier_armed i s && earlier_silent i s && isr_empty i s

abbrev pub besides_armed : ℕ → Event → Chain → Bool
besides_armed i e s = is_first_pulse e s && s.enable && earlier_silent i s && isr_empty i s

abbrev pub besides_silent : ℕ → Event → Chain → Bool
besides_silent i e s = is_first_pulse e s && s.enable && earlier_armed i s && isr_empty i s

abbrev pub besides_empty : ℕ → Event → Chain → Bool
besides_empty i e s = is_first_pulse e s && reaches i s

abbrev pub besides_first : ℕ → Event → Chain → Bool
besides_first i e s = is_pulse e s && s.enable && earlier_armed i s && earlier_silent i s && isr_empty i s

-- in a wait there are so many pulses with all conditions but one, and so many that count
pub record WouldCount (but-for-one : ℕ → Event → Chain → Bool) (many counted : ℕ) (s : Chain) (i : ℕ) (es : List Event) : Type 0 where
  pub waits_through : Waited s i 7 es
  pub would_count : along (but-for-one i) s es ≡ many
  pub do_count : pulses i s es ≡ counted

-- the chain's Enable In is low: each pulse stalls
unfoldable pub enable_low : Chain
enable_low = after all_pending (Enable 0 ∷ [])

-- an earlier chip is disarmed, as from the start
unfoldable pub behind_disarmed : Chain
behind_disarmed = after (start_of 2 0).chain (ready 1)

-- an earlier chip has requests of its own, and answers the eight pulses
unfoldable pub behind_asking : Chain
behind_asking = after (start_of 2 0).chain (ready 0 ++ ready 1)

-- 5 was answered and then 3, and both are in service: the order begins with 4, and 5 fences 7
unfoldable pub in_service : Chain
in_service =
    after (start_of 1 0).chain
    ((Command 0 0x81 ∷ Command 0 0xA1 ∷ Command 0 0x20 ∷ Command 0 0x5D ∷ [])
    ++ pulse
    ++ (Command 0 0x5B ∷ [])
    ++ pulse
    ++ (Command 0 0x5F ∷ []))

-- three responses of four bytes, of which the ISR bit is cleared after the first pulse
unfoldable pub four_bytes : Chain
four_bytes = after (start_of 1 0x03).chain (ready 0)

abbrev pub four_pulses : List Event
four_pulses = pulse ++ (Command 0 0x70 ∷ []) ++ pulse ++ pulse ++ pulse

abbrev pub three_responses : List Event
three_responses = four_pulses ++ four_pulses ++ four_pulses

-- A request that waits, but for one condition on it and its chip: armed, interrupt mode, rotating, unmasked, latched
abbrev pub besides_arming : Chip → Bool
besides_arming c = not (is_polled c) && is_rotating c && is_waiting c.irr c.imr 7

abbrev pub besides_mode : Chip → Bool
besides_mode c = is_armed c && is_rotating c && is_waiting c.irr c.imr 7

abbrev pub besides_rotating : Chip → Bool
besides_rotating c = is_armed c && not (is_polled c) && is_waiting c.irr c.imr 7

abbrev pub besides_unmasked : Chip → Bool
besides_unmasked c = is_armed c && not (is_polled c) && is_rotating c && bit c.irr 7

abbrev pub besides_latched : Chip → Bool
besides_latched c = is_armed c && not (is_polled c) && is_rotating c && not (bit c.imr 7)

-- a list that is no wait, although all conditions but one hold before each event, and none is a reset or an answer of the request; it has eight counted
-- pulses, and so many answers for other channels
pub record WouldWait (but-for-one : Chip → Bool) (s : Chain) (es : List Event) (answered : ℕ) : Type 0 where
  -- a sound chain with such a chip and channel
  pub there : Waited s 0 7 []
  pub would_wait : along (λ e s. but-for-one (chip_at s 0) && not (resets 0 e s) && not (answers_it 0 7 e s)) s es ≡ length es
  pub does_not : is_wait 0 7 s es ≡ false
  pub eight_counted : pulses 0 s es ≡ 8
  pub others_answered : others 0 7 s es ≡ answered

unfoldable pub disarmed : Chain
disarmed = after all_pending (Command 0 0xA2 ∷ [])

unfoldable pub polled : Chain
polled = after all_pending (Command 0 0x85 ∷ [])

unfoldable pub fixed_priority : Chain
fixed_priority = after all_pending (Command 0 0x80 ∷ [])

unfoldable pub masked : Chain
masked = after all_pending (Command 0 0x3F ∷ [])

unfoldable pub not_latched : Chain
not_latched = after all_pending (Command 0 0x4F ∷ [])

-- eight pulses, after each of which channel 0 asks again
abbrev pub pulse_and_again : List Event
pulse_and_again = pulse ++ (Command 0 0x58 ∷ [])

abbrev pub eight_again : List Event
eight_again =
    pulse_and_again ++ pulse_and_again ++ pulse_and_again ++ pulse_and_again ++ pulse_and_again ++ pulse_and_again ++ pulse_and_again ++ pulse_and_again

pub record Needed : Type 0 where
  -- what makes a pulse count
  pub enable_in : WouldCount besides_enable 8 0 enable_low 0 eight_pulses
  pub earlier_armed_lem : WouldCount besides_armed 8 0 behind_disarmed 1 eight_pulses
  pub earlier_silent_lem : WouldCount besides_silent 8 0 behind_asking 1 eight_pulses
  pub isr_empty_lem : WouldCount besides_empty 8 0 in_service 0 eight_pulses
  -- that no response is under way: `reaches` could leave it out, since a first pulse has it; left out there too, all twelve pulses count
  pub first_pulse_lem : WouldCount besides_first 12 3 four_bytes 0 three_responses
  -- and a first pulse cannot leave it out: three acknowledges are answered for other channels, else they would be twelve
  pub three_others : others 0 7 four_bytes three_responses ≡ 3
  pub else_twelve : along (λ e s. is_pulse e s && is_for_another 0 7 (selected s)) four_bytes three_responses ≡ 12
  -- what makes a request wait. (A chip that is disarmed or polled answers nothing, so the bound on the others would hold without the first two)
  pub armed : WouldWait besides_arming disarmed eight_pulses 0
  pub interrupt_mode : WouldWait besides_mode polled eight_pulses 0
  pub rotating : WouldWait besides_rotating fixed_priority eight_again 8
  pub unmasked : WouldWait besides_unmasked masked eight_again 8
  pub latched : WouldWait besides_latched not_latched eight_again 8
