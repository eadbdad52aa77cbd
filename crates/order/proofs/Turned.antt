-- The first set channel as the code finds it: by the zeros that end a turned byte.
-- Assumes nothing.
use Rattle.std.specs.Prelude.{Option, Some, None}
use mathlib.Core.Path.{◌≡◌, refl, ap, sym, ◌∙◌}
use mathlib.Core.Bool.{Bool, true, false, cond}
use Prim.Native.Nat.{ℕ, ◌*◌, ◌/◌, ◌%◌, ◌^◌, ◌<◌}
use native.Mathlib.Nat.{mod-lt}
use lib.Count.{count_trailing_zeros}
use lib.Dec.{T, eqb, eqb→eq, lit<}
use Rattle.bits.specs.Below.{every}
use Rattle.bits.proofs.Below.{each}
use Rattle.order.specs.Order.{channel_at, first_in, first_channel}
use Rattle.order.proofs.Order.{channel_modulo, first_modulo}

-- none for an empty byte; else the zeros that end the byte twice over, from the channel that starts the order, are the places before the first
-- set channel
abbrev pub turned : ℕ → ℕ → Option ℕ
turned last x = cond (eqb x 0) None (Some (channel_at last (count_trailing_zeros 16 (x * 257 / 2 ^ channel_at last 0))))

turned_modulo : (last x : ℕ) → turned last x ≡ turned (last % 8) x
turned_modulo last x =
    rw (channel_modulo last 0)
    (ap (λ (channel : ℕ). cond (eqb x 0) None (Some channel)) (channel_modulo last (count_trailing_zeros 16 (x * 257 / 2 ^ channel_at (last % 8) 0))))

-- the same channel, or none both
abbrev same : Option ℕ → Option ℕ → Bool
same (Some j) (Some k) = eqb j k
same (Some j) None = false
same None (Some k) = false
same None None = true

same_is : (a b : Option ℕ) → T (same a b) → a ≡ b
same_is (Some j) (Some k) t = ap Some (eqb→eq j k t)
same_is (Some j) None t = absurd t
same_is None (Some k) t = absurd t
same_is None None t = refl

-- computed for each order and each byte
abbrev agree : ℕ → ℕ → Bool
agree last x = same (turned last x) (first_channel last x)

computed : T (every 8 (λ last. every 256 (agree last)))
unfolding first_channel first_in count_trailing_zeros
computed = tt

pub first_turned : (last x : ℕ) → x < 256 → first_channel last x ≡ turned last x
first_turned last x h =
    first_modulo last x
    ∙ sym (same_is _ _ (each 256 (agree (last % 8)) (each 8 (λ last. every 256 (agree last)) computed (last % 8) (mod-lt last (lit< tt))) x h))
    ∙ sym (turned_modulo last x)
