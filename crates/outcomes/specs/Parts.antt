-- The same of every other function of the model that another crate can see and that takes every input: the parts of which the calls are made. How to read a field:
-- `Outcomes`. Those that ask for something are listed, each with its ground, in docs/PROMISES.md; the gate sees that every function is in one of the two places.
use Rattle.std.specs.Prelude.{Option, Bool, not, List, [], ◌∷◌, ℕ, ◌+◌, ◌*◌}
use contract.Lifetimes.{Lfts}
use Rattle.std.specs.Borrow.{Bor}
use Rattle.bits.proofs.digit_of.Reads as digit_of
use Rattle.bits.proofs.is_set.Reads as is_set
use Rattle.bits.proofs.waiting_number.Reads as waiting_number_outcome
use Rattle.bits.proofs.with_bit.Reads as with_bit_outcome
use Rattle.bits.proofs.without_bit.Reads as without_bit_outcome
use Rattle.bits.specs.Below.{digit}
use Rattle.bits.specs.Byte.{bit, waiting, with_bit, without_bit}
use Rattle.order.proofs.first_channel.Reads as first_channel_outcome
use Rattle.order.specs.Order.{first_channel}
use Rattle.search.proofs.channel_of.Reads as candidate_channel
use Rattle.search.proofs.exists.Reads as candidate_exists
use Rattle.search.proofs.candidate_number.Reads as candidate_number_outcome
use Rattle.search.proofs.candidate_of.Reads as candidate_of_outcome
use Rattle.search.proofs.clear_highest.Reads as clear_highest_outcome
use Rattle.search.specs.Candidate.{candidate, candidate_number, channel_of, exists}
use Rattle.search.specs.Clear.{clear_highest}
use Rattle.figure4.proofs.is_reset.Reads as is_reset_outcome
use Rattle.figure4.proofs.is_undefined.Reads as is_undefined_outcome
use Rattle.figure4.proofs.CommandTryFromU8.try_from.Reads as meaning_of_outcome
use Rattle.figure4.specs.Figure4.{figure4, is_reset, undefined, Meaning}
use Rattle.chip.proofs.Chip.candidate.Reads as chip_candidate
use Rattle.chip.proofs.Chip.commanded.Reads as chip_commanded
use Rattle.chip.proofs.Chip.fall.Reads as chip_fall
use Rattle.chip.proofs.Chip.gint.Reads as chip_gint
use Rattle.chip.proofs.Chip.gint_active.Reads as chip_gint_active
use Rattle.chip.proofs.Chip.has_no_destination.Reads as chip_has_no_destination
use Rattle.chip.proofs.Chip.is_armed.Reads as chip_is_armed
use Rattle.chip.proofs.Chip.is_past_its_count.Reads as chip_is_past_its_count
use Rattle.chip.proofs.Chip.is_sound.Reads as chip_is_sound
use Rattle.chip.proofs.Chip.line.Reads as chip_line
use Rattle.chip.proofs.Chip.power_up.Reads as chip_power_up
use Rattle.chip.proofs.Chip.read.Reads as chip_read
use Rattle.chip.proofs.Chip.response_byte.Reads as chip_response_byte
use Rattle.chip.proofs.Chip.response_level.Reads as chip_response_level
use Rattle.chip.proofs.Chip.rise.Reads as chip_rise
use Rattle.chip.proofs.Chip.status.Reads as chip_status
use Rattle.chip.proofs.Chip.waiting.Reads as chip_waiting
use Rattle.chip.proofs.Chip.zero.Reads as chip_zero
use Rattle.chip.specs.Acknowledge.{answered, finished, response_byte, response_level}
use Rattle.chip.specs.Command.{commanded}
use Rattle.chip.specs.Data.{data_read, has_no_destination, is_past_its_count}
use Rattle.chip.specs.Fields.{zero_chip}
use Rattle.chip.specs.Line.{line_set}
use Rattle.chip.specs.Reset.{power_up}
use Rattle.chip.specs.Sound.{chip_sound}
use Rattle.chip.specs.Status.{candidate_of, gint_active, gint_pin, is_armed, status_byte, waiting_number}
use Rattle.chip.specs.declared.Chip.{Chip}
use Rattle.event.proofs.NumberedFromEvent.from.Reads as event_numbers
use Rattle.event.proofs.EventTryFromNumbered.try_from.Reads as listed_of
use Rattle.event.proofs.next_number.Reads as next_number_outcome
use Rattle.event.specs.Counting.{next_number}
use Rattle.event.specs.Numbers.{listed, numbered, in_numbers}
use Rattle.event.specs.declared.Event.TheVariants.{Command, Status, Read, Line, Enable, Rise}
use Rattle.event.specs.declared.Event.{Event}
use Rattle.refusal.specs.Numbers.{first_of_list}
use Rattle.response.proofs.held.ends_response.Reads as response_ends_by
use Rattle.response.proofs.along.eo_of.Reads as response_eo_of
use Rattle.response.proofs.held.is_idle.Reads as response_is_idle
use Rattle.response.proofs.sound.is_sound.Reads as response_is_sound
use Rattle.response.proofs.Walk.at_first.Reads as walk_at_first
use Rattle.response.specs.Held.{ends_response, is_idle, Response}
use Rattle.response.specs.Sound.{response_sound}
use Rattle.response.specs.Walk.{eo_of}
use Rattle.decide.proofs.Look.of.Reads as look_of_outcome
use Rattle.decide.proofs.Seen.command.Reads as seen_command
use Rattle.decide.proofs.Seen.enable.Reads as seen_enable
use Rattle.decide.proofs.Seen.line.Reads as seen_line
use Rattle.decide.proofs.Seen.read.Reads as seen_read
use Rattle.decide.proofs.Seen.rise.Reads as seen_rise
use Rattle.decide.proofs.Seen.status.Reads as seen_status
use Rattle.decide.proofs.tests.bus_verdict.Reads as bus_verdict
use Rattle.decide.proofs.tests.chip_verdict.Reads as chip_verdict
use Rattle.decide.proofs.tests.command_verdict.Reads as command_verdict
use Rattle.decide.proofs.tests.data_verdict.Reads as data_verdict
use Rattle.decide.proofs.tests.fall_verdict.Reads as fall_verdict
use Rattle.decide.proofs.tests.level_verdict.Reads as level_verdict
use Rattle.decide.proofs.tests.line_verdict.Reads as line_verdict
use Rattle.decide.proofs.tests.rise_verdict.Reads as rise_verdict
use Rattle.decide.proofs.tests.verdict.Reads as verdict
use Rattle.decide.specs.Decided.{decided}
use Rattle.decide.specs.Look.{look_of}
use Rattle.decide.specs.Refusals.{iack_there_already, no_destination, no_such_channel, no_such_chip, no_such_level, past_its_count, pulse_under_way, undefined_command, verdict_on}
use Rattle.decide.specs.declared.Seen.{Seen}
use Rattle.chain.proofs.Chain.chip_at.Reads as chip_at_outcome
use Rattle.chain.proofs.Chain.ei.Reads as ei_at
use Rattle.chain.proofs.Chain.eo_at.Reads as eo_at_outcome
use Rattle.chain.proofs.Chain.pause.Reads as pause_of
use Rattle.chain.proofs.Chain.rip.Reads as rip_of
use Rattle.chain.specs.Fields.{chip_at}
use Rattle.chain.specs.Pins.{eo_at, ei, rip, pause}
use Rattle.chain.specs.Refusals.{not_sound}
use Rattle.chain.specs.declared.Chain.{Chain}
use Rattle.image.proofs.is_image.Reads as is_image_outcome
use Rattle.image.proofs.reading.event_of.Reads as event_of_outcome
use Rattle.image.proofs.writing.response_bytes.Reads as response_bytes_outcome
use Rattle.image.specs.Layout.{response_bytes}
use Rattle.image.specs.Reading.{is_image}
use Rattle.run.proofs.before_any.Reads as before_any_outcome
use Rattle.run.specs.Run.{broken_event, short_results}
use Rattle.outcomes.specs.Outcomes.{Determined}

pub record OnePart : Type 0 where
  -- bits: a bit of a byte tested, set and cleared, a level as a number, and the waiting number, of any numbers
  pub is_set : (x k : ℕ) → Determined is_set.Asked is_set.Post tt (x, (k, tt)) (bit x k)
  pub with_bit_outcome : (x k : ℕ) → Determined with_bit_outcome.Asked with_bit_outcome.Post tt (x, (k, tt)) (with_bit x k)
  pub without_bit_outcome : (x k : ℕ) → Determined without_bit_outcome.Asked without_bit_outcome.Post tt (x, (k, tt)) (without_bit x k)
  pub digit_of : (high : Bool) → Determined digit_of.Asked digit_of.Post tt (high, tt) (digit high)
  pub waiting_number_outcome : (irr imr : ℕ) → Determined waiting_number_outcome.Asked waiting_number_outcome.Post tt (irr, (imr, tt)) (waiting irr imr)
  -- order: the first set channel of any byte, in the order that ends with any channel
  pub first_channel_outcome : (last x : ℕ) → Determined first_channel_outcome.Asked first_channel_outcome.Post tt (last, (x, tt)) (first_channel last x)
  -- search: the candidate of any registers, clear-highest, and what a candidate is in numbers
  pub candidate_of_outcome : (irr imr isr mode pointer : ℕ)
      → Determined candidate_of_outcome.Asked candidate_of_outcome.Post tt (irr, (imr, (isr, (mode, (pointer, tt))))) (candidate irr imr isr mode pointer)
  pub clear_highest_outcome : (isr mode pointer : ℕ) → Determined clear_highest_outcome.Asked clear_highest_outcome.Post tt (isr, (mode, (pointer, tt))) (clear_highest isr mode pointer)
  pub candidate_exists : (c : Option ℕ) → Determined candidate_exists.Asked candidate_exists.Post tt (c, tt) (exists c)
  pub candidate_channel : (c : Option ℕ) → Determined candidate_channel.Asked candidate_channel.Post tt (c, tt) (channel_of c)
  pub candidate_number_outcome : (c : Option ℕ) → Determined candidate_number_outcome.Asked candidate_number_outcome.Post tt (c, tt) (candidate_number c)
  -- figure4: what any code means
  pub meaning_of_outcome : (code : ℕ) → Determined meaning_of_outcome.Asked meaning_of_outcome.Post tt (code, tt) (figure4 code)
  pub is_reset_outcome : (code : ℕ) → Determined is_reset_outcome.Asked is_reset_outcome.Post tt (code, tt) (is_reset code)
  pub is_undefined_outcome : (m : Meaning) → Determined is_undefined_outcome.Asked is_undefined_outcome.Post tt (m, tt) (undefined m)
  -- chip: what any chip shows, and what it becomes
  pub chip_zero : Determined chip_zero.Asked chip_zero.Post tt tt zero_chip
  pub chip_power_up : (fill : ℕ) → Determined chip_power_up.Asked chip_power_up.Post tt (fill, tt) (power_up fill)
  pub chip_is_sound : (c : Chip) → Determined chip_is_sound.Asked chip_is_sound.Post tt (c, tt) (chip_sound c)
  pub chip_is_armed : (c : Chip) → Determined chip_is_armed.Asked chip_is_armed.Post tt (c, tt) (is_armed c)
  pub chip_candidate : (c : Chip) → Determined chip_candidate.Asked chip_candidate.Post tt (c, tt) (candidate_of c)
  pub chip_status : (c : Chip) (ei : Bool) → Determined chip_status.Asked chip_status.Post tt (c, (ei, tt)) (status_byte c ei)
  pub chip_gint_active : (c : Chip) → Determined chip_gint_active.Asked chip_gint_active.Post tt (c, tt) (gint_active c)
  pub chip_gint : (c : Chip) → Determined chip_gint.Asked chip_gint.Post tt (c, tt) (gint_pin c.mode (gint_active c))
  pub chip_waiting : (c : Chip) → Determined chip_waiting.Asked chip_waiting.Post tt (c, tt) (waiting_number c)
  pub chip_line : (c : Chip) (channel : ℕ) (high : Bool) → Determined chip_line.Asked chip_line.Post tt (c, (channel, (high, tt))) (line_set channel high c)
  pub chip_commanded : (c : Chip) (code : ℕ) → Determined chip_commanded.Asked chip_commanded.Post tt (c, (code, tt)) (commanded (figure4 code) code c)
  pub chip_has_no_destination : (c : Chip) → Determined chip_has_no_destination.Asked chip_has_no_destination.Post tt (c, tt) (has_no_destination c.destination)
  pub chip_is_past_its_count : (c : Chip) → Determined chip_is_past_its_count.Asked chip_is_past_its_count.Post tt (c, tt) (is_past_its_count c.counts c.destination)
  pub chip_read : (c : Chip) → Determined chip_read.Asked chip_read.Post tt (c, tt) (data_read c)
  pub chip_fall : (c : Chip) (channel : ℕ) → Determined chip_fall.Asked chip_fall.Post tt (c, (channel, tt)) (answered channel c)
  pub chip_rise : (c : Chip) (channel : ℕ) → Determined chip_rise.Asked chip_rise.Post tt (c, (channel, tt)) (finished channel c)
  pub chip_response_level : (c : Chip) (channel : ℕ) → Determined chip_response_level.Asked chip_response_level.Post tt (c, (channel, tt)) (response_level c channel)
  pub chip_response_byte : (c : Chip) (level place : ℕ)
      → Determined chip_response_byte.Asked chip_response_byte.Post tt (c, (level, (place, tt))) (response_byte c level place)
  -- event: any four numbers as an event, and the event number after one more
  pub listed_of : (kind chip channel value : ℕ) → Determined listed_of.Asked listed_of.Post tt (numbered kind chip channel value, tt) (listed kind chip channel value)
  pub event_numbers : (e : Event) → Determined event_numbers.Asked event_numbers.Post tt (e, tt) (in_numbers e)
  pub next_number_outcome : (number : ℕ) → Determined next_number_outcome.Asked next_number_outcome.Post tt (number, tt) (next_number number)
  -- response: what any response says, and the walk before chip 0
  pub response_is_idle : (r : Response) → Determined response_is_idle.Asked response_is_idle.Post tt (r, tt) (is_idle r)
  pub response_ends_by : (r : Response) (i code : ℕ) → Determined response_ends_by.Asked response_ends_by.Post tt (i, (code, (r, tt))) (ends_response i code r)
  pub response_eo_of : (r : Response) (ei : Bool) (c : Chip) (i : ℕ) → Determined response_eo_of.Asked response_eo_of.Post tt (ei, (c, (r, (i, tt)))) (eo_of ei c r i)
  pub response_is_sound : (r : Response) (count : ℕ) (iack : Bool)
      → Determined response_is_sound.Asked response_is_sound.Post tt (r, (count, (iack, tt))) (response_sound count iack r)
  pub walk_at_first : (enable : Bool) → Determined walk_at_first.Asked walk_at_first.Post tt (enable, tt) (record { at = 0; ei = enable; answering = 0 })
  -- decide: where an event looks, the verdict on it, and what those do that ask for nothing
  pub look_of_outcome : (e : Event) (r : Response) → Determined look_of_outcome.Asked look_of_outcome.Post tt (e, (r, tt)) (look_of e r)
  pub verdict : (e : Event) (v : Seen) → Determined verdict.Asked verdict.Post tt (e, (v, tt)) (verdict_on e v)
  pub chip_verdict : (count i : ℕ) → Determined chip_verdict.Asked chip_verdict.Post tt (count, (i, tt)) (first_of_list (no_such_chip count i ∷ []))
  pub bus_verdict : (count i : ℕ) (iack : Bool)
      → Determined bus_verdict.Asked bus_verdict.Post tt (count, (i, (iack, tt))) (first_of_list (no_such_chip count i ∷ pulse_under_way iack ∷ []))
  pub command_verdict : (count i : ℕ) (iack : Bool) (code : ℕ)
      → Determined command_verdict.Asked command_verdict.Post tt (count, (i, (iack, (code, tt)))) (first_of_list (no_such_chip count i ∷ pulse_under_way iack ∷ undefined_command code ∷ []))
  pub data_verdict : (count i : ℕ) (iack : Bool) (c : Chip)
      → Determined data_verdict.Asked data_verdict.Post tt (count, (i, (iack, (c, tt)))) (first_of_list (no_such_chip count i ∷ pulse_under_way iack ∷ no_destination c ∷ past_its_count c ∷ []))
  pub line_verdict : (count i channel level : ℕ)
      → Determined line_verdict.Asked line_verdict.Post tt (count, (i, (channel, (level, tt)))) (first_of_list (no_such_chip count i ∷ no_such_channel channel ∷ no_such_level level ∷ []))
  pub level_verdict : (level : ℕ) → Determined level_verdict.Asked level_verdict.Post tt (level, tt) (first_of_list (no_such_level level ∷ []))
  pub fall_verdict : (iack : Bool) → Determined fall_verdict.Asked fall_verdict.Post tt (iack, tt) (first_of_list (iack_there_already (not iack) ∷ []))
  pub rise_verdict : (iack : Bool) → Determined rise_verdict.Asked rise_verdict.Post tt (iack, tt) (first_of_list (iack_there_already iack ∷ []))
  pub seen_command : (v : Seen) (i code : ℕ) → Determined seen_command.Asked seen_command.Post tt (v, (i, (code, tt))) (decided (Command i code) v)
  pub seen_status : (v : Seen) (i : ℕ) → Determined seen_status.Asked seen_status.Post tt (v, (i, tt)) (decided (Status i) v)
  pub seen_read : (v : Seen) (i : ℕ) → Determined seen_read.Asked seen_read.Post tt (v, (i, tt)) (decided (Read i) v)
  pub seen_line : (v : Seen) (i channel level : ℕ) → Determined seen_line.Asked seen_line.Post tt (v, (i, (channel, (level, tt)))) (decided (Line i channel level) v)
  pub seen_enable : (v : Seen) (level : ℕ) → Determined seen_enable.Asked seen_enable.Post tt (v, (level, tt)) (decided (Enable level) v)
  pub seen_rise : (v : Seen) → Determined seen_rise.Asked seen_rise.Post tt (v, tt) (decided Rise v)
  -- chain: a chip of any chain, and its levels
  pub chip_at_outcome : (s : Chain) (i : ℕ) → Determined chip_at_outcome.Asked chip_at_outcome.Post tt (s, (i, tt)) (chip_at s i)
  pub ei_at : (s : Chain) (i : ℕ) → Determined ei_at.Asked ei_at.Post tt (s, (i, tt)) (ei s i)
  pub eo_at_outcome : (s : Chain) (level : Bool) (i : ℕ) → Determined eo_at_outcome.Asked eo_at_outcome.Post tt (s, (level, (i, tt))) (eo_at level s i)
  pub rip_of : (s : Chain) → Determined rip_of.Asked rip_of.Post tt (s, tt) (rip s)
  pub pause_of : (s : Chain) → Determined pause_of.Asked pause_of.Post tt (s, tt) (pause s)
  -- image: the test of any bytes, an event number from two bytes, and the bytes of any response
  pub is_image_outcome : (lent : Lfts 1) (image : Bor (List ℕ)) → Determined is_image_outcome.Asked is_image_outcome.Post lent (image, tt) (is_image image.now)
  pub event_of_outcome : (low high : ℕ) → Determined event_of_outcome.Asked event_of_outcome.Post tt (low, (high, tt)) (low + 256 * high)
  pub response_bytes_outcome : (r : Response) → Determined response_bytes_outcome.Asked response_bytes_outcome.Post tt (r, tt) (response_bytes r)
  -- run: what refuses a run of any chain, any length of its list and any room, before any event
  pub before_any_outcome : (s : Chain) (length room : ℕ)
      → Determined before_any_outcome.Asked before_any_outcome.Post tt (s, (length, (room, tt))) (first_of_list (not_sound s ∷ broken_event length ∷ short_results length room ∷ []))
