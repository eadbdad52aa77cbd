-- An order of a chip's channels, and the first set channel in it. An order is known by the channel that ends it: it starts after that one
-- (the rules paper, "Bits": rotating order starts after the pointer and ends with it). The channel that ends it counts modulo 8.
use Rattle.std.specs.Prelude.{Bool, cond, Option, Some, None, ℕ, ◌+◌, ◌%◌, ltb}
use Rattle.bits.specs.Below.{first}
use Rattle.bits.specs.Byte.{bit}

-- the channel at a place, 0 to 7, of the order that ends with `last`: it starts after it
abbrev pub channel_at : ℕ → ℕ → ℕ
channel_at last place = (last + 1 + place) % 8

-- the place, in the order that ends with `last`, of the first channel that passes a test; 8 if none does
unfoldable pub first_in : ℕ → (ℕ → Bool) → ℕ
first_in last f = first 8 (λ place. f (channel_at last place))

-- the first set channel of a byte in the order that ends with `last`; an empty byte has none
unfoldable pub first_channel : ℕ → ℕ → Option ℕ
first_channel last x = cond (ltb (first_in last (bit x)) 8) (Some (channel_at last (first_in last (bit x)))) None
