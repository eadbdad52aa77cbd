-- "Clear highest priority ISR bit" (the rules paper, event 1): by the order in force; it does nothing on an empty ISR.
use Rattle.std.specs.Prelude.{cond, ℕ, ltb}
use Rattle.bits.specs.Byte.{without_bit}
use Rattle.order.specs.Order.{channel_at}
use Rattle.search.specs.Order.{last_of, fence}

-- the first ISR bit of the order cleared
unfoldable pub clear_first : ℕ → ℕ → ℕ
clear_first last isr = cond (ltb (fence last isr) 8) (without_bit isr (channel_at last (fence last isr))) isr

unfoldable pub clear_highest : ℕ → ℕ → ℕ → ℕ
clear_highest isr mode pointer = clear_first (last_of mode pointer) isr
