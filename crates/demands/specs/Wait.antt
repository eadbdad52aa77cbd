-- What the third demand speaks of: a wait, a first pulse that reaches a chip, and the two counts. Over any chain and any list of events.
use Rattle.std.specs.Prelude.{Some, None, Bool, true, false, not, ◌&&◌, List, [], ◌∷◌, ◌≡◌, ℕ, ◌<◌, eqb}
use Rattle.bits.specs.Below.{every}
use Rattle.bits.specs.Byte.{is_waiting}
use Rattle.figure4.specs.Figure4.{is_reset}
use Rattle.chip.specs.Status.{is_armed, is_polled, is_rotating, gint_active}
use Rattle.chip.specs.declared.Chip.{Chip}
use Rattle.refusal.specs.Numbers.{is_accepted}
use Rattle.chain.specs.Events.{event_of}
use Rattle.chain.specs.Refusals.{verdict_of}
use Rattle.chain.specs.Fields.{chip_at}
use Rattle.response.specs.Held.{is_idle, Response}
use Rattle.chain.specs.Seen.{selected}
use Rattle.chain.specs.Sound.{sound}
use Rattle.chain.specs.declared.Chain.{Chain}
use Rattle.event.specs.declared.Event.{Event}
use Rattle.event.specs.Numbers.{in_numbers, is_kind, is_fall}
use Rattle.demands.specs.Along.{along}

-- a chip that is armed, in interrupt mode and in rotating priority, and a request on it that is latched and unmasked
abbrev pub waits : Chip → ℕ → Bool
waits c channel = is_armed c && not (is_polled c) && is_rotating c && is_waiting c.irr c.imr channel

-- a pulse: an accepted fall. A refused fall is none
abbrev pub is_pulse : Event → Chain → Bool
is_pulse e s = is_fall e && is_accepted (verdict_of e s)

-- a first pulse: one without a response under way
abbrev pub is_first_pulse : Event → Chain → Bool
is_first_pulse e s = is_pulse e s && is_idle s.response

-- the response is chip i's for the channel; or chip i's for another one
abbrev pub is_for : ℕ → ℕ → Response → Bool
is_for i channel None = false
is_for i channel (Some r) = eqb r.chip i && eqb r.channel channel

abbrev pub is_for_another : ℕ → ℕ → Response → Bool
is_for_another i channel None = false
is_for_another i channel (Some r) = eqb r.chip i && not (eqb r.channel channel)

-- the event answers the request; or it is an acknowledge that the chip answers for another channel
unfoldable pub answers_it : ℕ → ℕ → Event → Chain → Bool
answers_it i channel e s = is_first_pulse e s && is_for i channel (selected s)

unfoldable pub answers_another : ℕ → ℕ → Event → Chain → Bool
answers_another i channel e s = is_first_pulse e s && is_for_another i channel (selected s)

-- a command that resets chip i
abbrev pub is_reset_of : ℕ → Event → Bool
is_reset_of i e = is_kind 1 e && eqb (in_numbers e).chip i && is_reset (in_numbers e).value

-- the event resets chip i: a refused reset resets nothing
abbrev pub resets : ℕ → Event → Chain → Bool
resets i e s = is_reset_of i e && is_accepted (verdict_of e s)

-- the wait of a request on chip i: it waits before each event of the list, and no event resets the chip or answers the request
unfoldable pub is_wait : ℕ → ℕ → Chain → List Event → Bool
is_wait i channel s [] = true
is_wait i channel s (e ∷ es) =
    waits (chip_at s i) channel && not (resets i e s) && not (answers_it i channel e s) && is_wait i channel (event_of e s).chain es

-- a request on a chip in the count of a sound chain, and a list of events through which it waits
pub record Waited (s : Chain) (i channel : ℕ) (es : List Event) : Type 0 where
  pub sound_chain : sound s ≡ true
  pub in_the_count : i < s.count
  pub a_channel : channel < 8
  pub waits_through : is_wait i channel s es ≡ true

-- every chip before chip i is armed
abbrev pub earlier_armed : ℕ → Chain → Bool
earlier_armed i s = every i (λ j. is_armed (chip_at s j))

-- and none of them in interrupt mode has a request that it would answer: a candidate with M2 clear, which is what makes GINT active
abbrev pub earlier_silent : ℕ → Chain → Bool
earlier_silent i s = every i (λ j. not (gint_active (chip_at s j)))

-- a first pulse that falls now reaches chip i: no response is under way, the chain's Enable In is high, every earlier chip is armed, and none
-- would answer
unfoldable pub reaches : ℕ → Chain → Bool
reaches i s = is_idle s.response && s.enable && earlier_armed i s && earlier_silent i s

-- nothing is in service on chip i
abbrev pub isr_empty : ℕ → Chain → Bool
isr_empty i s = eqb (chip_at s i).isr 0

-- a first pulse that reaches chip i with its in-service register empty
unfoldable pub is_counted : ℕ → Event → Chain → Bool
is_counted i e s = is_first_pulse e s && reaches i s && isr_empty i s

-- the acknowledges that chip i answers for its other channels, and the first pulses that reach it with ISR empty
abbrev pub others : ℕ → ℕ → Chain → List Event → ℕ
others i channel s es = along (answers_another i channel) s es

abbrev pub pulses : ℕ → Chain → List Event → ℕ
pulses i s es = along (is_counted i) s es
