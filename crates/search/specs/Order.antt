-- The order in force (the rules paper, "Bits": fixed order is 0 to 7; rotating order starts after the pointer and ends with it), and what stands first in an order.
use Rattle.std.specs.Prelude.{cond, ℕ}
use Rattle.bits.specs.Byte.{bit, is_waiting}
use Rattle.order.specs.Order.{first_in}

-- the channel that ends the order in force: M0 set is rotating order, which ends with the pointer; M0 clear is fixed order, which ends with 7
abbrev pub last_of : ℕ → ℕ → ℕ
last_of mode pointer = cond (bit mode 0) pointer 7

-- the place of the first channel that is set in IRR and clear in IMR
abbrev pub first_waiting : ℕ → ℕ → ℕ → ℕ
first_waiting last irr imr = first_in last (is_waiting irr imr)

-- the fence: the place of the first ISR bit
abbrev pub fence : ℕ → ℕ → ℕ
fence last isr = first_in last (bit isr)
