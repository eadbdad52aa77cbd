-- The definitions of one chip tried on the paper's own figures, by computation.
-- Assumes nothing.
use mathlib.Core.Bool.{true, false}
use mathlib.Core.List.{List, [], ◌∷◌}
use mathlib.Core.Path.{◌≡◌, refl}
use Prim.Native.Nat.{ℕ, ◌%◌}
use lib.ListN.{get_or, replicate}
use Rattle.chip.specs.Acknowledge.{response_level, response_length}
use Rattle.chip.specs.Command.{commanded}
use Rattle.chip.specs.Data.{data_read}
use Rattle.chip.specs.Fields.{with_irr, with_isr, with_imr, with_acr, with_mode, with_pointer}
use Rattle.figure4.specs.Figure4.{figure4}
use Rattle.chip.specs.Line.{line_set}
use Rattle.chip.specs.Reset.{reset, power_up}
use Rattle.chip.specs.Status.{status_byte, gint_active, gint_pin}
use Rattle.chip.specs.declared.Chip.{Chip}
use Rattle.chip.specs.declared.Destination.TheVariants.{Nowhere, Imr, Acr, Level}
use Rattle.chip.proofs.Rules.{chip_rules}

-- the power-up chip, for every fill: as after reset, with all lines high
power_up_lem : (fill : ℕ) → power_up fill ≡ record {
  irr = 0;
  isr = 0;
  imr = 255;
  acr = 0;
  mode = 0;
  command = 0;
  memory = replicate 32 fill;
  counts = replicate 8 (fill % 4);
  lines = 255;
  pointer = 7;
  destination = Nowhere;
}
unfolding chip_rules
power_up_lem fill = refl

as_after_reset : (fill : ℕ) → reset (power_up fill) ≡ power_up fill
unfolding chip_rules
as_after_reset fill = refl

-- a chip after a command
abbrev told : ℕ → Chip → Chip
told code c = commanded (figure4 code) code c

-- armed, with channel 5 pending
abbrev five : Chip
five = told 0x5D (told 0x2D (told 0xA1 (power_up 0)))

-- the status bytes of K1, K2 and K4, the last also with EI low; polled and rotating are S4 and S5
statuses :
    (status_byte (power_up 0) true ≡ 0x40)
    × (status_byte (told 0xA1 (power_up 0)) true ≡ 0x48)
    × (status_byte five true ≡ 0xCD)
    × (status_byte five false ≡ 0x8D)
    × (status_byte (told 0x85 (power_up 0)) true ≡ 0x70)
unfolding chip_rules
statuses = (refl, refl, refl, refl, refl)

-- a chip that is masked and disarmed, its IRR empty again after line 3 went low
abbrev low_line : Chip
low_line = told 0x40 (line_set 3 false (power_up 0))

-- a falling edge latches; the same level again and the rising edge do not
falling :
    ((line_set 3 false (power_up 0)).irr ≡ 0x08)
    × ((line_set 3 false low_line).irr ≡ 0x00)
    × ((line_set 3 true low_line).irr ≡ 0x00)
unfolding chip_rules
falling = (refl, refl, refl)

-- M4 turns the sense round, and the command that does so latches nothing itself
rising :
    ((told 0x90 low_line).irr ≡ 0x00)
    × ((line_set 3 true (told 0x90 low_line)).irr ≡ 0x08)
    × ((line_set 3 false (told 0x90 (power_up 0))).irr ≡ 0x00)
unfolding chip_rules
rising = (refl, refl, refl)

-- a chip with something in each register: fixed order, common vector, M3 and M4 set, armed
abbrev busy : Chip
busy = with_irr 0x81 (with_isr 0x24 (with_imr 0x98 (with_acr 0x42 (with_mode 0xDA (with_pointer 3 (power_up 0))))))

-- IRR, ISR, IMR, ACR and mode after a command
abbrev after : ℕ → Chip → List ℕ
after code c =
    (told code c).irr ∷ (told code c).isr ∷ (told code c).imr ∷ (told code c).acr ∷ (told code c).mode ∷ []

-- the rows of Figure 4 that change registers, in its order
rows :
    (after 0x00 busy ≡ 0x00 ∷ 0x00 ∷ 0xFF ∷ 0x00 ∷ 0x00 ∷ [])
    × (after 0x17 busy ≡ 0x00 ∷ 0x24 ∷ 0x00 ∷ 0x42 ∷ 0xDA ∷ [])
    × (after 0x1F busy ≡ 0x01 ∷ 0x24 ∷ 0x18 ∷ 0x42 ∷ 0xDA ∷ [])
    × (after 0x27 busy ≡ 0x81 ∷ 0x24 ∷ 0x00 ∷ 0x42 ∷ 0xDA ∷ [])
    × (after 0x2B busy ≡ 0x81 ∷ 0x24 ∷ 0x90 ∷ 0x42 ∷ 0xDA ∷ [])
    × (after 0x37 busy ≡ 0x81 ∷ 0x24 ∷ 0xFF ∷ 0x42 ∷ 0xDA ∷ [])
    × (after 0x38 busy ≡ 0x81 ∷ 0x24 ∷ 0x99 ∷ 0x42 ∷ 0xDA ∷ [])
    × (after 0x47 busy ≡ 0x00 ∷ 0x24 ∷ 0x98 ∷ 0x42 ∷ 0xDA ∷ [])
    × (after 0x48 busy ≡ 0x80 ∷ 0x24 ∷ 0x98 ∷ 0x42 ∷ 0xDA ∷ [])
    × (after 0x57 busy ≡ 0xFF ∷ 0x24 ∷ 0x98 ∷ 0x42 ∷ 0xDA ∷ [])
    × (after 0x5A busy ≡ 0x85 ∷ 0x24 ∷ 0x98 ∷ 0x42 ∷ 0xDA ∷ [])
    × (after 0x6F busy ≡ 0x81 ∷ 0x20 ∷ 0x98 ∷ 0x42 ∷ 0xDA ∷ [])
    × (after 0x77 busy ≡ 0x81 ∷ 0x00 ∷ 0x98 ∷ 0x42 ∷ 0xDA ∷ [])
    × (after 0x7D busy ≡ 0x81 ∷ 0x04 ∷ 0x98 ∷ 0x42 ∷ 0xDA ∷ [])
    × (after 0x85 busy ≡ 0x81 ∷ 0x24 ∷ 0x98 ∷ 0x42 ∷ 0xC5 ∷ [])
    × (after 0xA4 busy ≡ 0x81 ∷ 0x24 ∷ 0x98 ∷ 0x42 ∷ 0xBA ∷ [])
    × (after 0xA6 busy ≡ 0x81 ∷ 0x24 ∷ 0x98 ∷ 0x42 ∷ 0x3A ∷ [])
unfolding chip_rules
rows = (refl, refl, refl, refl, refl, refl, refl, refl, refl, refl, refl, refl, refl, refl, refl, refl, refl)

-- A4 leaves a disarmed chip disarmed, A5 arms it
arms : ((told 0xA4 (told 0xA6 busy)).mode ≡ 0x3A) × ((told 0xA5 (told 0xA6 busy)).mode ≡ 0xBA)
unfolding chip_rules
arms = (refl, refl)

-- the rows that choose a destination; the level's count is stored at once; the next command of any kind ends the destination and is the last one
chooses :
    ((told 0xBF busy).destination ≡ Imr)
    × ((told 0xCF busy).destination ≡ Acr)
    × ((told 0xF2 busy).destination ≡ Level 2 0)
    × (get_or (told 0xF2 busy).counts 2 0 ≡ 2)
    × ((told 0x28 (told 0xF2 busy)).destination ≡ Nowhere)
    × ((told 0x28 (told 0xF2 busy)).command ≡ 0x28)
unfolding chip_rules
chooses = (refl, refl, refl, refl, refl, refl)

-- data reads by M6 M5: 00 ISR, 01 IMR, 10 IRR, 11 ACR
reads :
    (data_read (told 0xA0 busy) ≡ 0x24)
    × (data_read (told 0xA4 busy) ≡ 0x98)
    × (data_read (told 0xA8 busy) ≡ 0x81)
    × (data_read (told 0xAC busy) ≡ 0x42)
unfolding chip_rules
reads = (refl, refl, refl, refl)

-- M1: in common vector mode the level is 0, otherwise the channel; the length is the channel's count either way
levels :
    (response_level busy 5 ≡ 0)
    × (response_level (told 0x80 busy) 5 ≡ 5)
    × (response_length (told 0xF5 busy) 5 ≡ 3)
    × (response_length (told 0xF5 (told 0x80 busy)) 5 ≡ 3)
unfolding chip_rules
levels = (refl, refl, refl, refl)

-- M3: 1 active and 0 inactive where it is set, 0 active and 2 inactive where it is clear
pins : (gint_pin 0x08 true ≡ 1) × (gint_pin 0x08 false ≡ 0) × (gint_pin 0x00 true ≡ 0) × (gint_pin 0x00 false ≡ 2)
pins = (refl, refl, refl, refl)

-- M2: a polled chip has no GINT, and S7 is set all the same
polled : (gint_active five ≡ true) × (gint_active (told 0x84 five) ≡ false) × (status_byte (told 0x84 five) true ≡ 0xDD)
unfolding chip_rules
polled = (refl, refl, refl)
