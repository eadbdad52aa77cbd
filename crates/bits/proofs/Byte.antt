-- Laws of a byte's bits. Those of two bytes come from the laws of the digits, those of one from a test that antt computes over all of them.
-- Assumes nothing.
use mathlib.Core.Path.{◌≡◌, ap, ◌∙◌}
use mathlib.Core.Bool.{Bool, false, not, ◌&&◌, ◌||◌, beq}
use Prim.Native.Nat.{ℕ, ◌-◌, ◌/◌, ◌%◌, ◌^◌, ◌≤◌, ◌<◌}
use native.Mathlib.Nat.{mod-lt, div-eq_of_lt, lt_of_lt_of_le}
use lib.Dec.{T, eqb, eqb→eq, lit<}
use lib.Bits.{bit_and, bit_or, and_le_l, and_shr, and_mod, or_shr, or_mod}
use native.Mathlib.Omega.{arith}
use lib.Count.{ones, ones_in}
use lib.Pow.{pow_mono}
use borrow.Author.Tests.{lt-ltb}
use Rattle.bits.specs.Below.{how_many, every}
use Rattle.bits.specs.Byte.{bit, with_bit, without_bit, is_waiting, waiting}
use Rattle.bits.proofs.Below.{each, tested₂, how_many-same}

-- a byte has no bit 8 or above
pub no_bit : (x k : ℕ) → x < 256 → 8 ≤ k → bit x k ≡ false
no_bit x k h l = rw (div-eq_of_lt (lt_of_lt_of_le h (pow_mono l)))

digit_lt : (x k : ℕ) → x / 2 ^ k % 2 < 2
digit_lt x k = mod-lt (x / 2 ^ k) (lit< tt)

-- an operation that works digit by digit works bit by bit
module _ (op : ℕ → ℕ → ℕ) (on : Bool → Bool → Bool)
    (shr : (a b k : ℕ) → op a b / 2 ^ k ≡ op (a / 2 ^ k) (b / 2 ^ k))
    (mod₂ : (a b k : ℕ) → op a b % 2 ^ k ≡ op (a % 2 ^ k) (b % 2 ^ k))
    (digits : T (every 2 (λ x. every 2 (λ y. beq (eqb (op x y) 1) (on (eqb x 1) (eqb y 1))))))
  where
    bitwise : (a b k : ℕ) → bit (op a b) k ≡ on (bit a k) (bit b k)
    bitwise a b k =
        ap (λ (x : ℕ). eqb (x % 2) 1) (shr a b k) ∙ ap (λ (x : ℕ). eqb x 1) (mod₂ (a / 2 ^ k) (b / 2 ^ k) 1)
        ∙ tested₂ 2 2 (λ x y. eqb (op x y) 1) (λ x y. on (eqb x 1) (eqb y 1)) digits (a / 2 ^ k % 2) (b / 2 ^ k % 2)
        (digit_lt a k)
        (digit_lt b k)

-- bit by bit, `&` is and, `|` is or
pub bit-and : (a b k : ℕ) → bit (bit_and a b) k ≡ bit a k && bit b k
bit-and = bitwise bit_and ◌&&◌ and_shr and_mod tt

pub bit-or : (a b k : ℕ) → bit (bit_or a b) k ≡ bit a k || bit b k
bit-or = bitwise bit_or ◌||◌ or_shr or_mod tt

-- `!` of a byte turns each bit round
pub bit_not : (x k : ℕ) → x < 256 → k < 8 → bit (255 - x) k ≡ not (bit x k)
bit_not x k hx hk = tested₂ 256 8 (λ x k. bit (255 - x) k) (λ x k. not (bit x k)) tt x k hx hk

-- a power of two has one bit
pub bit_power : (k j : ℕ) → k < 8 → j < 8 → bit (2 ^ k) j ≡ eqb j k
bit_power k j hk hj = tested₂ 8 8 (λ k j. bit (2 ^ k) j) (λ k j. eqb j k) tt k j hk hj

-- what set and clear do to each bit
pub bit_with : (x k j : ℕ) → k < 8 → j < 8 → bit (with_bit x k) j ≡ bit x j || eqb j k
bit_with x k j hk hj = rw (lt-ltb k 8 hk) (bit-or x (2 ^ k) j ∙ ap (λ (b : Bool). bit x j || b) (bit_power k j hk hj))

pub bit_without : (x k j : ℕ) → k < 8 → j < 8 → bit (without_bit x k) j ≡ bit x j && not (eqb j k)
bit_without x k j hk hj =
    rw (lt-ltb k 8 hk)
    (bit-and x (255 - 2 ^ k) j
    ∙ ap (λ (b : Bool). bit x j && b)
    (tested₂ 8 8 (λ k j. bit (255 - 2 ^ k) j) (λ k j. not (eqb j k)) tt k j hk hj))

-- the ones of a byte, counted channel by channel
pub ones_sum : (x : ℕ) → x < 256 → ones x ≡ how_many 8 (bit x)
unfolding ones ones_in
ones_sum x h = eqb→eq (ones x) (how_many 8 (bit x)) (each 256 (λ x. eqb (ones x) (how_many 8 (bit x))) tt x h)

-- the requests that are set in IRR and clear in IMR are the bits of one byte
pub bit-waiting : (irr imr k : ℕ) → imr < 256 → k < 8 → bit (bit_and irr (255 - imr)) k ≡ is_waiting irr imr k
bit-waiting irr imr k hm hk = bit-and irr (255 - imr) k ∙ ap (λ (b : Bool). bit irr k && b) (bit_not imr k hm hk)

-- their number is a sum over eight channels
pub waiting_sum : (irr imr : ℕ) → bit_and irr (255 - imr) < 256 → imr < 256 → ones (bit_and irr (255 - imr)) ≡ waiting irr imr
waiting_sum irr imr h hm =
    ones_sum (bit_and irr (255 - imr)) h
    ∙ how_many-same 8 (bit (bit_and irr (255 - imr))) (is_waiting irr imr) (λ k l. bit-waiting irr imr k hm l)

-- so of two bytes
pub waiting_of_bytes : (irr imr : ℕ) → irr < 256 → imr < 256 → ones (bit_and irr (255 - imr)) ≡ waiting irr imr
waiting_of_bytes irr imr hi hm = waiting_sum irr imr (omega (arith, and_le_l irr (255 - imr))) hm
