-- A line level at a chip (the rules paper, event 5).
use Rattle.std.specs.Prelude.{Bool, not, cond, ◌&&◌, ℕ}
use Rattle.bits.specs.Byte.{bit, with_bit, without_bit}
use Rattle.chip.specs.Fields.{with_irr, with_lines}
use Rattle.chip.specs.declared.Chip.{Chip}

-- the transition of M4's sense: M4 set is a rising edge, M4 clear a falling one. The same level again is neither
abbrev pub is_active_edge : ℕ → Bool → Bool → Bool
is_active_edge mode before now = cond (bit mode 4) (not before && now) (before && not now)

-- a byte with bit k at a level
abbrev pub bit_at : Bool → ℕ → ℕ → ℕ
bit_at high x k = cond high (with_bit x k) (without_bit x k)

-- the line of a channel takes a level; an active edge sets the IRR bit, masked or disarmed included
unfoldable pub line_set : ℕ → Bool → Chip → Chip
line_set channel high c =
    with_lines (bit_at high c.lines channel)
    (with_irr (cond (is_active_edge c.mode (bit c.lines channel) high) (with_bit c.irr channel) c.irr) c)
