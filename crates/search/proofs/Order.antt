-- Laws of the candidate and of the first ISR bit: one look for the first set channel answers for both.
-- Assumes nothing.
use Rattle.std.specs.Prelude.{Option, Some, None}
use Rattle.std.specs.Option.{unwrap_or}
use mathlib.Core.Path.{◌≡◌, refl, ap, ◌∙◌}
use mathlib.Core.Bool.{Bool, true, false, cond, not, ◌&&◌, ◌||◌}
use Prim.Native.Nat.{ℕ, ◌-◌, ◌<◌}
use lib.Bits.{bit_and, bit_or}
use lib.Dec.{ltb, lit<}
use Rattle.bits.specs.Byte.{bit, without_bit, is_waiting}
use Rattle.bits.proofs.Byte.{bit-or, bit-waiting}
use Rattle.order.specs.Order.{channel_at, first_in, first_channel}
use Rattle.order.proofs.Order.{channel_lt, first_in-same, first_in_ahead, first_in_either}
use Rattle.search.specs.Candidate.{candidate, candidate_in, channel_of}
use Rattle.search.specs.Clear.{clear_first}
use Rattle.search.specs.Order.{last_of, first_waiting, fence}

-- the channels that wait or are in service
abbrev busy : ℕ → ℕ → ℕ → ℕ → Bool
busy irr imr isr k = is_waiting irr imr k || bit isr k

-- searched as the bits of one byte
first_in_busy : (last irr imr isr : ℕ) → imr < 256 → first_in last (bit (bit_or (bit_and irr (255 - imr)) isr)) ≡ first_in last (busy irr imr isr)
first_in_busy last irr imr isr h =
    first_in-same last (bit (bit_or (bit_and irr (255 - imr)) isr)) (busy irr imr isr)
    (λ k l. bit-or (bit_and irr (255 - imr)) isr k ∙ ap (λ (b : Bool). b || bit isr k) (bit-waiting irr imr k h l))

-- the candidate, where the first channel that waits or is in service is known: itself, unless it is in service
abbrev pub candidate_by : ℕ → Option ℕ → Option ℕ
candidate_by isr (Some k) = cond (bit isr k) None (Some k)
candidate_by isr None = None

pub candidate_by_lem : (last irr imr isr : ℕ) → imr < 256
    → candidate_in last irr imr isr ≡ candidate_by isr (first_channel last (bit_or (bit_and irr (255 - imr)) isr))
unfolding candidate_in first_channel
candidate_by_lem last irr imr isr h = rw (first_in_busy last irr imr isr h) (by (ltb place 8) (bit isr (channel_at last place)) refl refl)
  where
    place : ℕ
    place = first_in last (busy irr imr isr)

    ahead : ltb (first_waiting last irr imr) (fence last isr) ≡ ltb place 8 && not (bit isr (channel_at last place))
    ahead = first_in_ahead last (is_waiting irr imr) (bit isr)

    same : ltb (first_waiting last irr imr) (fence last isr) ≡ true → first_waiting last irr imr ≡ place
    same = first_in_either last (is_waiting irr imr) (bit isr)

    by : (found fenced : Bool) → ltb place 8 ≡ found → bit isr (channel_at last place) ≡ fenced
        → cond (ltb (first_waiting last irr imr) (fence last isr)) (Some (channel_at last (first_waiting last irr imr))) None
        ≡ candidate_by isr (cond (ltb place 8) (Some (channel_at last place)) None)
    by true true found fenced = simp (ahead, found, fenced)
    by true false found fenced =
        let is : ltb (first_waiting last irr imr) (fence last isr) ≡ true = ahead ∙ simp (found, fenced) in
        rw is (rw (same is) (simp (found, fenced)))
    by false fenced none is = simp (ahead, none)

-- the first ISR bit cleared, where there is one
abbrev pub cleared : ℕ → Option ℕ → ℕ
cleared isr (Some k) = without_bit isr k
cleared isr None = isr

clear_by : (found : Bool) (isr k : ℕ) → cond found (without_bit isr k) isr ≡ cleared isr (cond found (Some k) None)
clear_by true isr k = refl
clear_by false isr k = refl

pub clear_first_lem : (last isr : ℕ) → clear_first last isr ≡ cleared isr (first_channel last isr)
unfolding clear_first first_channel
clear_first_lem last isr = clear_by (ltb (fence last isr) 8) isr (channel_at last (fence last isr))

if_found_lt : (found : Bool) (c : Option ℕ) → channel_of c < 8 → channel_of (cond found c None) < 8
if_found_lt true c h = h
if_found_lt false c h = lit< tt

-- the candidate's channel, 0 if there is none, is a channel of the chip
pub candidate_lt : (irr imr isr mode pointer : ℕ) → channel_of (candidate irr imr isr mode pointer) < 8
unfolding candidate candidate_in
candidate_lt irr imr isr mode pointer =
    if_found_lt (bit mode 7) _
    (if_found_lt (ltb (first_waiting (last_of mode pointer) irr imr) (fence (last_of mode pointer) isr)) _
    (channel_lt (last_of mode pointer) (first_waiting (last_of mode pointer) irr imr)))

unwrapped : (c : Option ℕ) → unwrap_or c 0 ≡ channel_of c
unwrapped (Some k) = refl
unwrapped None = refl

-- the same of the channel as code takes it out
pub unwrapped_lt : (irr imr isr mode pointer : ℕ) → unwrap_or (candidate irr imr isr mode pointer) 0 < 8
unwrapped_lt irr imr isr mode pointer = rw (unwrapped (candidate irr imr isr mode pointer)) (candidate_lt irr imr isr mode pointer)
