-- The definitions of a chain tried: its start, and where no event list from a start leads: refused starts, records that are not sound, absent chips.
-- Assumes nothing.
use Rattle.std.specs.Prelude.{Some, None}
use mathlib.Core.Bool.{Bool, true, false}
use mathlib.Core.Path.{◌≡◌, refl}
use Prim.Native.Nat.{ℕ}
use Rattle.chip.specs.Fields.{with_pointer}
use Rattle.chip.specs.Reset.{power_up}
use Rattle.refusal.specs.Answers.{handed}
use Rattle.chain.specs.Events.{event_of}
use Rattle.chain.specs.Fields.{chip_at, with_chip, with_own, zero_chain}
use Rattle.chain.specs.Sound.{sound}
use Rattle.chain.specs.Start.{started, start_of}
use Rattle.chain.specs.declared.Chain.{Chain}
use Rattle.event.specs.declared.Event.{Event}
use Rattle.event.specs.declared.Event.TheVariants.{Command, Data, Line, Fall}
use Rattle.chain.proofs.Rules.{rules}

-- starts: 0 and 9 chips are refused by 1, with the chain of count 0; 1 and 8 are sound
starts : (fill : ℕ) → ((handed (start_of 0 fill).answer).number ≡ 1) × ((start_of 9 fill).chain ≡ zero_chain)
unfolding rules
starts fill = (refl, refl)

-- a start: each of the eight records is the power-up chip, EI and IACK are high, no response is under way, the event number is 0
at_the_start :
    let s : Chain = (start_of 3 0x5A).chain in
    (chip_at s 0 ≡ power_up 0x5A)
    × (chip_at s 2 ≡ power_up 0x5A)
    × (chip_at s 3 ≡ power_up 0x5A)
    × (chip_at s 7 ≡ power_up 0x5A)
    × (s.count ≡ 3)
    × (s.enable ≡ true)
    × (s.iack ≡ true)
    × (s.response ≡ None)
    × (s.event ≡ 0)
unfolding rules
at_the_start = (refl, refl, refl, refl, refl, refl, refl, refl, refl)

sound_starts : (sound (start_of 1 0xFF).chain ≡ true) × (sound (start_of 8 0xFF).chain ≡ true)
unfolding rules
sound_starts = (refl, refl)

-- every later call on a refused start gives 1
after_a_refused_start :
    (handed (event_of Fall zero_chain).answer).number ≡ 1
unfolding rules
after_a_refused_start = refl

-- a pointer above 7 in the count is not sound; past the count it is no matter
pointers :
    (sound (with_chip 1 (with_pointer 8 (power_up 0)) (started 2 0)) ≡ false)
    × (sound (with_chip 2 (with_pointer 8 (power_up 0)) (started 2 0)) ≡ true)
unfolding rules
pointers = (refl, refl)

-- two chips with a response of chip 1 that has delivered so many of its two bytes
abbrev pair : Bool → ℕ → Chain
pair iack delivered = with_own true iack (Some (record { chip = 1; channel = 7; level = 0; length = 2; delivered = delivered })) (started 2 0)

-- at least 1 byte, at most the length with IACK low, fewer with IACK high
deliveries :
    (sound (pair true 0) ≡ false)
    × (sound (pair true 1) ≡ true)
    × (sound (pair true 2) ≡ false)
    × (sound (pair false 2) ≡ true)
unfolding rules
deliveries = (refl, refl, refl, refl)

abbrev number_of : Event → Chain → ℕ
number_of e s = (handed (event_of e s).answer).number

-- where several refusals apply, the first of the table is given: 2 before 5 and 7, 5 before 7, 3 before 4
orders :
    (number_of (Command 2 0x01) (with_own true false None (started 2 0)) ≡ 2)
    × (number_of (Command 1 0x01) (with_own true false None (started 2 0)) ≡ 5)
    × (number_of (Line 1 8 2) (started 2 0) ≡ 3)
unfolding rules
orders = (refl, refl, refl)

-- a line moves during a pulse too, so its bad level is 4; a data write without destination is 8
others :
    (number_of (Line 1 7 2) (with_own true false None (started 2 0)) ≡ 4)
    × (number_of (Data 1 0x00) (started 2 0) ≡ 8)
unfolding rules
others = (refl, refl)
