-- What an accepted event and the two views give: what the rules of the model say, and nothing else.
use Rattle.std.specs.Prelude.{Ok, Bool, true, not, ◌&&◌, ◌≡◌, ℕ, ◌+◌, ◌%◌, ◌<◌}
use Rattle.bits.specs.Below.{digit}
use Rattle.bits.specs.Byte.{bit}
use Rattle.search.specs.Candidate.{exists, channel_of}
use Rattle.chip.specs.Status.{is_armed, is_polled, is_rotating, candidate_of}
use Rattle.chip.specs.declared.Chip.{Chip}
use Rattle.refusal.specs.Answers.{handed}
use Rattle.views.specs.Views.{table_of, picture_of, register_view, pin_view}
use Rattle.chain.specs.Apply.{answer_of, changed, counted}
use Rattle.chain.specs.Events.{event_of}
use Rattle.chain.specs.Fields.{chip_at}
use Rattle.chain.specs.Pins.{ei}
use Rattle.chain.specs.Sound.{sound}
use Rattle.chain.specs.declared.Chain.{Chain}
use Rattle.event.specs.declared.Event.{Event}
use Rattle.event.specs.declared.Event.TheVariants.{Status}
use Rattle.views.specs.declared.Registers.{Registers}
use Rattle.demands.specs.Along.{accepts}

-- the bits of a status byte, for a chip with its EI at a level
pub record StatusBits (status : ℕ) (c : Chip) (ei : Bool) : Type 0 where
  pub s2_to_s0 : status % 8 ≡ channel_of (candidate_of c)
  pub s3 : bit status 3 ≡ is_armed c
  pub s4 : bit status 4 ≡ is_polled c
  pub s5 : bit status 5 ≡ is_rotating c
  pub s6 : bit status 6 ≡ ei
  pub s7 : bit status 7 ≡ exists (candidate_of c)

-- 1 if a channel is set in the table's IRR and clear in its IMR, else 0
abbrev pub waits_in : Registers → ℕ → ℕ
waits_in r channel = digit (bit r.irr channel && not (bit r.imr channel))

pub record ByTheRules : Type 0 where
  -- an accepted event answers by its rule, and leaves the chain of its rule, counted: each register and each response byte
  pub event : (e : Event) (s : Chain) → accepts e s ≡ true → event_of e s ≡ record { answer = answer_of e s; chain = counted (changed e s) }
  -- the views of a chip in the count of a sound chain are given: each register, the status byte and each pin, with the chain's event number
  pub table : (s : Chain) (chip : ℕ) → sound s ≡ true → chip < s.count → register_view chip s ≡ record { verdict = Ok tt; table = table_of chip s }
  pub picture : (s : Chain) (chip : ℕ) → sound s ≡ true → chip < s.count → pin_view chip s ≡ record { verdict = Ok tt; picture = picture_of chip s }
  -- the status byte that is read is that of the table of the same state
  pub status_read : (s : Chain) (chip : ℕ) → accepts (Status chip) s ≡ true
      → (handed (event_of (Status chip) s).answer).byte ≡ (register_view chip s).table.status
  -- and the table's own has these bits of its chip, S6 being that chip's EI
  pub status_bits : (s : Chain) (chip : ℕ) → sound s ≡ true → chip < s.count → StatusBits (register_view chip s).table.status (chip_at s chip) (ei s chip)
  -- the waiting number is a sum over the eight channels of the table's own IRR and IMR
  pub waiting_is_a_sum : (s : Chain) (chip : ℕ)
      → (table_of chip s).waiting
      ≡ waits_in (table_of chip s) 0 + waits_in (table_of chip s) 1 + waits_in (table_of chip s) 2 + waits_in (table_of chip s) 3
      + waits_in (table_of chip s) 4 + waits_in (table_of chip s) 5 + waits_in (table_of chip s) 6 + waits_in (table_of chip s) 7
