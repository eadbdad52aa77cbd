-- A channel that waits in an order: where the candidate stands to it, and how an answer to another channel brings it nearer in rotating order.
-- Assumes nothing.
use Rattle.std.specs.Prelude.{Option}
use mathlib.Core.Path.{◌≡◌, refl, ap, ◌∙◌}
use mathlib.Core.Bool.{true, false, false≢true}
use Prim.Native.Nat.{ℕ, ◌+◌, ◌-◌, ◌%◌, ◌≤◌, ◌<◌}
use native.Mathlib.Nat.{mod-lt}
use native.Mathlib.Omega.{arith}
use lib.Dec.{ltb, lit<}
use borrow.Author.Tests.{lt-ltb}
use Rattle.bits.specs.Byte.{bit, is_waiting}
use Rattle.bits.proofs.Below.{either, tested, first_none, first-before}
use Rattle.search.specs.Candidate.{candidate, candidate_in, exists, channel_of}
use Rattle.order.specs.Order.{channel_at, first_in}
use Rattle.order.proofs.Order.{channel_lt}
use Rattle.search.specs.Order.{last_of, first_waiting, fence}

-- where an armed chip has a candidate, it is the first waiting channel of the order in force
pub candidate_at : (irr imr isr mode pointer : ℕ) → bit mode 7 ≡ true → exists (candidate irr imr isr mode pointer) ≡ true
    → channel_of (candidate irr imr isr mode pointer) ≡ channel_at (last_of mode pointer) (first_waiting (last_of mode pointer) irr imr)
unfolding candidate candidate_in
candidate_at irr imr isr mode pointer armed =
    rw armed
    (either (λ (c : Option ℕ). exists c ≡ true → channel_of c ≡ channel_at (last_of mode pointer) (first_waiting (last_of mode pointer) irr imr))
    (ltb (first_waiting (last_of mode pointer) irr imr) (fence (last_of mode pointer) isr)) _ _
    (λ ahead found. refl)
    (λ fenced found. absurd (false≢true found)))

-- an armed chip with a waiting channel and an empty ISR has a candidate
no_fence : (last : ℕ) → fence last 0 ≡ 8
unfolding first_in
no_fence last = first_none 8 (λ place. bit 0 (channel_at last place)) (λ place h. tested 8 (bit 0) (λ k. false) tt (channel_at last place) (channel_lt last place))

pub candidate_exists : (irr imr mode pointer : ℕ) → bit mode 7 ≡ true → first_waiting (last_of mode pointer) irr imr < 8
    → exists (candidate irr imr 0 mode pointer) ≡ true
unfolding candidate candidate_in
candidate_exists irr imr mode pointer armed h = simp (armed, no_fence (last_of mode pointer), lt-ltb _ _ h)

-- the place of a channel in the order that ends with `last`
abbrev pub place_of : ℕ → ℕ → ℕ
place_of last channel = (channel + 7 - last) % 8

at_place : (last channel : ℕ) → last ≤ 7 → channel < 8 → channel_at last (place_of last channel) ≡ channel
at_place last channel hl hc = omega arith

-- the first waiting channel stands at or before the place of any that waits
pub waiting-before : (last irr imr channel : ℕ) → last ≤ 7 → channel < 8 → is_waiting irr imr channel ≡ true
    → first_waiting last irr imr ≤ place_of last channel
unfolding first_in
waiting-before last irr imr channel hl hc e =
    first-before 8 (λ place. is_waiting irr imr (channel_at last place)) (place_of last channel) (mod-lt _ (lit< tt))
    (ap (is_waiting irr imr) (at_place last channel hl hc) ∙ e)

-- once an earlier channel ends the order, a later one stands nearer
nearer : (last channel place : ℕ) → last ≤ 7 → channel < 8 → place < place_of last channel → place_of (channel_at last place) channel < place_of last channel
nearer last channel place hl hc h = omega arith

-- so where the first waiting channel is another one and ends the order then, a channel that waits stands nearer
pub waiting_nearer : (last irr imr channel : ℕ) → last ≤ 7 → channel < 8 → is_waiting irr imr channel ≡ true
    → (channel_at last (first_waiting last irr imr) ≡ channel → ⊥)
    → place_of (channel_at last (first_waiting last irr imr)) channel < place_of last channel
waiting_nearer last irr imr channel hl hc e other =
    let before : first_waiting last irr imr ≤ place_of last channel = waiting-before last irr imr channel hl hc e in
    let apart : first_waiting last irr imr ≡ place_of last channel → ⊥ = λ is. other (ap (channel_at last) is ∙ at_place last channel hl hc) in
    let ahead : first_waiting last irr imr < place_of last channel = omega (arith, apart) in
    nearer last channel (first_waiting last irr imr) hl hc ahead
