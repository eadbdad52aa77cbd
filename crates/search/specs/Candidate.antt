-- The candidate of a chip (the rules paper, "Bits"), from its registers as plain numbers, and its number for a caller in C ("Views and runs").
use Rattle.std.specs.Prelude.{Option, Some, None, Bool, true, false, cond, ℕ, ltb}
use Rattle.bits.specs.Byte.{bit}
use Rattle.order.specs.Order.{channel_at}
use Rattle.search.specs.Order.{last_of, first_waiting, fence}

-- the first channel in the order that is set in IRR and clear in IMR, if it stands strictly ahead of every ISR bit
unfoldable pub candidate_in : ℕ → ℕ → ℕ → ℕ → Option ℕ
candidate_in last irr imr isr =
    cond (ltb (first_waiting last irr imr) (fence last isr)) (Some (channel_at last (first_waiting last irr imr))) None

-- the candidate: by the order in force if M7 is set, otherwise there is none
unfoldable pub candidate : ℕ → ℕ → ℕ → ℕ → ℕ → Option ℕ
candidate irr imr isr mode pointer = cond (bit mode 7) (candidate_in (last_of mode pointer) irr imr isr) None

-- a candidate exists
abbrev pub exists : Option ℕ → Bool
exists (Some k) = true
exists None = false

-- the candidate's channel, 0 if none (D)
abbrev pub channel_of : Option ℕ → ℕ
channel_of (Some k) = k
channel_of None = 0

-- the number for a caller in C: the channel, or 255 for no candidate
abbrev pub candidate_number : Option ℕ → ℕ
candidate_number (Some k) = k
candidate_number None = 255

-- what the C caller of the search gets: 254, which stands for refusal 1, exactly if the pointer is above 7
unfoldable pub search_number : ℕ → ℕ → ℕ → ℕ → ℕ → ℕ
search_number irr imr isr mode pointer = cond (ltb 7 pointer) 254 (candidate_number (candidate irr imr isr mode pointer))
