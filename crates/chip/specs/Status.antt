-- What a chip's registers say (the rules paper, "Bits" and "Views and runs"): candidate, status byte, GINT, waiting number.
use Rattle.std.specs.Prelude.{Option, Bool, not, cond, ◌&&◌, ℕ, ◌+◌, ◌*◌}
use Rattle.bits.specs.Below.{digit}
use Rattle.bits.specs.Byte.{bit, waiting}
use Rattle.search.specs.Candidate.{candidate, exists, channel_of}
use Rattle.chip.specs.declared.Chip.{Chip}

-- M7, M2 and M0: armed, polled, rotating priority
abbrev pub is_armed : Chip → Bool
is_armed c = bit c.mode 7

abbrev pub is_polled : Chip → Bool
is_polled c = bit c.mode 2

abbrev pub is_rotating : Chip → Bool
is_rotating c = bit c.mode 0

-- the candidate of the chip: the status byte, GINT and the acknowledge all take this one
abbrev pub candidate_of : Chip → Option ℕ
candidate_of c = candidate c.irr c.imr c.isr c.mode c.pointer

-- the status byte of a chip whose EI is at a level: S2 to S0 the candidate's channel, S3 M7, S4 M2, S5 M0, S6 EI, S7 whether a candidate exists
abbrev pub status_byte : Chip → Bool → ℕ
status_byte c ei =
    channel_of (candidate_of c) + 8 * digit (is_armed c) + 16 * digit (is_polled c) + 32 * digit (is_rotating c) + 64 * digit ei
    + 128 * digit (exists (candidate_of c))

-- GINT is active if M2 is clear and a candidate exists
abbrev pub gint_active : Chip → Bool
gint_active c = not (is_polled c) && exists (candidate_of c)

-- its pin: M3 set gives 1 active and 0 inactive; M3 clear gives 0 active and 2 (released) inactive
abbrev pub gint_pin : ℕ → Bool → ℕ
gint_pin mode active = cond (bit mode 3) (cond active 1 0) (cond active 0 2)

-- the number of ones in IRR that are clear in IMR
abbrev pub waiting_number : Chip → ℕ
waiting_number c = waiting c.irr c.imr
