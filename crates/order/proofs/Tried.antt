-- The definitions tried by computation.
-- Assumes nothing.
use Rattle.std.specs.Prelude.{Some, None}
use mathlib.Core.Path.{◌≡◌, refl}
use Rattle.order.specs.Order.{first_in, first_channel}

-- channels 3 and 5: in the order 0 to 7, after 3, and after 5; a channel alone at the order's end; an empty byte
firsts :
    (first_channel 7 0x28 ≡ Some 3)
    × (first_channel 3 0x28 ≡ Some 5)
    × (first_channel 5 0x28 ≡ Some 3)
    × (first_channel 3 0x08 ≡ Some 3)
    × (first_channel 3 0x00 ≡ None)
unfolding first_channel first_in
firsts = (refl, refl, refl, refl, refl)

-- the channel that ends an order counts modulo 8
modulo : (first_channel 13 0x28 ≡ Some 3) × (first_channel 255 0xFF ≡ Some 0)
unfolding first_channel first_in
modulo = (refl, refl)
