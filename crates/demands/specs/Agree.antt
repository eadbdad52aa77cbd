-- When a picture of the pins and a table of the registers agree (the rules paper, "Views and runs"), and that those of one state always do.
use Rattle.std.specs.Prelude.{Bool, true, not, cond, ◌&&◌, ◌≡◌, ℕ, ◌<◌, eqb}
use Rattle.bits.specs.Below.{digit}
use Rattle.bits.specs.Byte.{bit}
use Rattle.views.specs.Views.{register_view, pin_view}
use Rattle.chain.specs.Sound.{sound}
use Rattle.chain.specs.declared.Chain.{Chain}
use Rattle.views.specs.declared.Pins.{Pins}
use Rattle.views.specs.declared.Registers.{Registers}

-- GINT is active, read off its pin and M3: 1 with M3 set, 0 with M3 clear
abbrev pub gint_reads_active : ℕ → ℕ → Bool
gint_reads_active mode pin = eqb pin (cond (bit mode 3) 1 0)

-- a table and a picture agree: one event number in both, S6 shows the level of the EI pin, and GINT reads active just where S7 is set and S4 is not
pub record Agree (table : Registers) (picture : Pins) : Type 0 where
  pub events : table.event ≡ picture.event
  pub s6_is_ei : digit (bit table.status 6) ≡ picture.ei
  pub gint_is_s7_and_not_s4 : gint_reads_active table.mode picture.gint ≡ bit table.status 7 && not (bit table.status 4)

pub record Agreement : Type 0 where
  -- the table and the picture of a chip in the count of a sound chain, so of one to eight chips, agree
  pub agree : (s : Chain) (chip : ℕ) → sound s ≡ true → chip < s.count
      → Agree (register_view chip s).table (pin_view chip s).picture
  -- and of no chain is one view given and the other refused
  pub both_or_neither : (s : Chain) (chip : ℕ) → (register_view chip s).verdict ≡ (pin_view chip s).verdict
