-- A byte as eight channels (the rules paper, "Bits"): channel k is bit k, and bit 0 is the lowest.
use Rattle.std.specs.Prelude.{Bool, cond, not, ◌&&◌, ℕ, ◌-◌, ◌/◌, ◌%◌, ◌^◌, eqb, ltb}
use Rattle.std.specs.Int.Bits.{bit_and, bit_or}
use Rattle.bits.specs.Below.{how_many}

-- bit k of x is set
abbrev pub bit : ℕ → ℕ → Bool
bit x k = eqb (x / 2 ^ k % 2) 1

-- the byte x with bit k set; a byte has no bit 8 or above
abbrev pub with_bit : ℕ → ℕ → ℕ
with_bit x k = cond (ltb k 8) (bit_or x (2 ^ k)) x

-- the byte x with bit k clear
abbrev pub without_bit : ℕ → ℕ → ℕ
without_bit x k = cond (ltb k 8) (bit_and x (255 - 2 ^ k)) x

-- channel k is set in IRR and clear in IMR
abbrev pub is_waiting : ℕ → ℕ → ℕ → Bool
is_waiting irr imr k = bit irr k && not (bit imr k)

-- the number of ones in IRR that are clear in IMR
abbrev pub waiting : ℕ → ℕ → ℕ
waiting irr imr = how_many 8 (is_waiting irr imr)
