-- What the record of a sound response says of each of its parts, and how a response stays sound.
-- Assumes nothing.
use Rattle.std.specs.Prelude.{Some}
use mathlib.Core.Bool.{Bool, true, false, cond, ◌&&◌}
use mathlib.Core.Path.{◌≡◌}
use Prim.Native.Nat.{ℕ, ◌+◌, ◌≤◌, ◌<◌}
use native.Mathlib.Omega.{arith}
use lib.Dec.{eqb, leb, ltb}
use borrow.Author.Tests.{leb-true, ltb-true, lt-ltb, le-leb, eqb-false}
use Rattle.bits.proofs.Below.{both_left, both_right}
use Rattle.bits.specs.Byte.{bit}
use Rattle.search.proofs.Order.{candidate_lt}
use Rattle.search.specs.Candidate.{channel_of}
use Rattle.chip.proofs.Soundness.{code_le}
use Rattle.chip.specs.Sound.{chip_sound}
use Rattle.chip.specs.Status.{candidate_of}
use Rattle.chip.specs.declared.Chip.{Chip}
use Rattle.response.specs.Held.{reply_of, one_more}
use Rattle.response.specs.Sound.{delivered_sound, response_sound}
use Rattle.response.specs.declared.Reply.{Reply}

-- the parts of a sound response
pub record SoundReply (count : ℕ) (r : Reply) : Type 0 where
  pub chip : r.chip < count
  pub channel : r.channel ≤ 7
  pub level : r.level ≤ 7
  pub at_least_one : 1 ≤ r.length
  pub at_most_four : r.length ≤ 4

pub reply_parts : (count : ℕ) (iack : Bool) (r : Reply) → response_sound count iack (Some r) ≡ true → SoundReply count r
reply_parts count iack r e =
    let to-length = both_left (ltb r.chip count && leb r.channel 7 && leb r.level 7 && leb 1 r.length && leb r.length 4) _ e in
    let to_one = both_left (ltb r.chip count && leb r.channel 7 && leb r.level 7 && leb 1 r.length) _ to-length in
    let to_level = both_left (ltb r.chip count && leb r.channel 7 && leb r.level 7) _ to_one in
    let to-channel = both_left (ltb r.chip count && leb r.channel 7) _ to_level in
    record {
      chip = ltb-true _ _ (both_left (ltb r.chip count) _ to-channel);
      channel = leb-true _ 7 (both_right (ltb r.chip count) _ to-channel);
      level = leb-true _ 7 (both_right (ltb r.chip count && leb r.channel 7) _ to_level);
      at_least_one = leb-true 1 _ (both_right (ltb r.chip count && leb r.channel 7 && leb r.level 7) _ to_one);
      at_most_four = leb-true _ 4 (both_right (ltb r.chip count && leb r.channel 7 && leb r.level 7 && leb 1 r.length) _ to-length);
    }

pub reply_delivered : (count : ℕ) (iack : Bool) (r : Reply) → response_sound count iack (Some r) ≡ true → delivered_sound iack r ≡ true
reply_delivered count iack r e =
    both_right (ltb r.chip count && leb r.channel 7 && leb r.level 7 && leb 1 r.length && leb r.length 4) _ e

pub reply_whole : (count : ℕ) (iack : Bool) (r : Reply) → SoundReply count r → delivered_sound iack r ≡ true → response_sound count iack (Some r) ≡ true
reply_whole count iack r p d =
    simp (lt-ltb _ _ p.chip, le-leb _ _ p.channel, le-leb _ _ p.level, le-leb _ _ p.at_least_one, le-leb _ _ p.at_most_four, d)

-- with IACK high it has a byte left
pub byte_left : (r : Reply) → delivered_sound true r ≡ true → r.delivered < r.length
byte_left r e = ltb-true _ _ (both_right (leb 1 r.delivered) _ e)

level_le : (b : Bool) (channel : ℕ) → channel ≤ 7 → cond b 0 channel ≤ 7
level_le true channel h = omega arith
level_le false channel h = h

-- the response of a sound chip in the count for its candidate
pub reply_of-sound : (count i : ℕ) (c : Chip) → chip_sound c ≡ true → i < count → SoundReply count (reply_of i c)
reply_of-sound count i c e h =
    let below : channel_of (candidate_of c) < 8 = candidate_lt c.irr c.imr c.isr c.mode c.pointer in
    let code = code_le c (channel_of (candidate_of c)) e below in
    record {
      chip = h;
      channel = omega arith;
      level = level_le (bit c.mode 1) (channel_of (candidate_of c)) (omega arith);
      at_least_one = omega arith;
      at_most_four = omega arith;
    }

-- a response with one byte more, IACK low
pub one_more_lem : (count : ℕ) (r : Reply) → SoundReply count r → r.delivered < r.length → response_sound count false (Some (one_more r)) ≡ true
one_more_lem count r p next =
    reply_whole count false (one_more r)
    record { chip = p.chip; channel = p.channel; level = p.level; at_least_one = p.at_least_one; at_most_four = p.at_most_four }
    (simp (le-leb 1 (r.delivered + 1) (omega arith), le-leb (r.delivered + 1) r.length (omega arith)))

-- the end of a pulse: after the last byte the response ends, otherwise a byte is left
pub still_left : (r : Reply) → eqb r.delivered r.length ≡ false → delivered_sound false r ≡ true → delivered_sound true r ≡ true
still_left r more e =
    let one : 1 ≤ r.delivered = leb-true 1 r.delivered (both_left (leb 1 r.delivered) _ e) in
    let most : r.delivered ≤ r.length = leb-true r.delivered r.length (both_right (leb 1 r.delivered) _ e) in
    let other : r.delivered ≡ r.length → ⊥ = eqb-false r.delivered r.length more in
    let less : r.delivered < r.length = omega (arith, other) in
    simp (le-leb 1 r.delivered one, lt-ltb r.delivered r.length less)
