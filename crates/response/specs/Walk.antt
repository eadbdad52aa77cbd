-- The walk along the chain (the rules paper, "Bits" and event 7), chip by chip from chip 0. A level is true where it is high.
use Rattle.std.specs.Prelude.{Bool, not, cond, ◌&&◌, ℕ, zero, suc, ◌+◌, ltb}
use Rattle.chip.specs.Status.{is_armed, gint_active}
use Rattle.chip.specs.declared.Chip.{Chip}
use Rattle.response.specs.Held.{is_responding}
use Rattle.response.specs.Held.{Response}
use Rattle.response.specs.declared.Walk.{Walk}

-- EO of chip i at a level of its EI: low if EI is low, if M7 is clear, even when polled (D), or if the chip is responding; else high
abbrev pub eo_of : Bool → Chip → Response → ℕ → Bool
eo_of ei c response i = ei && is_armed c && not (is_responding response i)

-- the first chip that answers, the next one included: while EI is high, a chip with M2 clear and a candidate; the one behind it if none does
abbrev pub answers_first : Chip → Walk → ℕ
answers_first c w = cond (ltb w.answering w.at) w.answering (cond (w.ei && gint_active c) w.at (w.at + 1))

-- past the next chip
unfoldable pub past : Chip → Response → Walk → Walk
past c response w = record { at = w.at + 1; ei = eo_of w.ei c response w.at; answering = answers_first c w }

-- the walk that has come to a chip, past each chip before it
unfoldable pub along : Bool → (ℕ → Chip) → Response → ℕ → Walk
along enable chips response zero = record { at = 0; ei = enable; answering = 0 }
along enable chips response (suc n) = past (chips n) response (along enable chips response n)
