-- Laws of a search along an order, however it is computed.
-- Assumes nothing.
use mathlib.Core.Path.{◌≡◌, refl, ap}
use mathlib.Core.Bool.{Bool, true, not, ◌&&◌, ◌||◌}
use Prim.Native.Nat.{ℕ, ◌%◌, ◌<◌}
use native.Mathlib.Nat.{mod-lt}
use native.Mathlib.Omega.{arith}
use lib.Dec.{ltb, lit<}
use Rattle.bits.specs.Byte.{bit}
use Rattle.bits.proofs.Below.{first-same, first_ahead, first_either}
use Rattle.order.specs.Order.{channel_at, first_in, first_channel}

-- a place of an order has a channel of the chip
pub channel_lt : (last place : ℕ) → channel_at last place < 8
channel_lt last place = mod-lt _ (lit< tt)

-- two tests that agree on the channels find the same place
pub first_in-same : (last : ℕ) (f g : ℕ → Bool) → ((k : ℕ) → k < 8 → f k ≡ g k) → first_in last f ≡ first_in last g
unfolding first_in
first_in-same last f g e =
    first-same 8 (λ place. f (channel_at last place)) (λ place. g (channel_at last place)) (λ place h. e (channel_at last place) (channel_lt last place))

-- the channel that ends an order counts modulo 8
pub channel_modulo : (last place : ℕ) → channel_at last place ≡ channel_at (last % 8) place
channel_modulo last place = omega arith

first_in_modulo : (last : ℕ) (f : ℕ → Bool) → first_in last f ≡ first_in (last % 8) f
unfolding first_in
first_in_modulo last f =
    first-same 8 (λ place. f (channel_at last place)) (λ place. f (channel_at (last % 8) place)) (λ place h. ap f (channel_modulo last place))

pub first_modulo : (last x : ℕ) → first_channel last x ≡ first_channel (last % 8) x
unfolding first_channel
first_modulo last x = rw (first_in_modulo last (bit x)) (rw (channel_modulo last (first_in (last % 8) (bit x))) refl)

-- two tests in one search along an order: the first channel that passes the one stands ahead of the first that passes the other exactly if
-- the first that passes either exists and does not pass the other; and then it is that one
pub first_in_ahead : (last : ℕ) (f g : ℕ → Bool)
    → ltb (first_in last f) (first_in last g) ≡ ltb (first_in last (λ k. f k || g k)) 8 && not (g (channel_at last (first_in last (λ k. f k || g k))))
unfolding first_in
first_in_ahead last f g = first_ahead 8 (λ place. f (channel_at last place)) (λ place. g (channel_at last place))

pub first_in_either : (last : ℕ) (f g : ℕ → Bool) → ltb (first_in last f) (first_in last g) ≡ true → first_in last f ≡ first_in last (λ k. f k || g k)
unfolding first_in
first_in_either last f g ahead = first_either 8 (λ place. f (channel_at last place)) (λ place. g (channel_at last place)) ahead
