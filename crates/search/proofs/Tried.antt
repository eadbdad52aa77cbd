-- The definitions tried on the paper's own figures, by computation.
-- Assumes nothing.
use Rattle.std.specs.Prelude.{Some, None}
use mathlib.Core.List.{List, [], ◌∷◌}
use mathlib.Core.Path.{◌≡◌, refl}
use Prim.Native.Nat.{ℕ}
use Rattle.search.specs.Candidate.{candidate, candidate_in, search_number}
use Rattle.search.specs.Clear.{clear_highest, clear_first}
use Rattle.order.specs.Order.{channel_at, first_in}
use Rattle.search.specs.Order.{last_of}

-- the order in force, as the list of its channels
abbrev order : ℕ → ℕ → List ℕ
order mode pointer = places 0 ∷ places 1 ∷ places 2 ∷ places 3 ∷ places 4 ∷ places 5 ∷ places 6 ∷ places 7 ∷ []
  where
    places : ℕ → ℕ
    places place = channel_at (last_of mode pointer) place

-- fixed order is 0 to 7; rotating order starts after the pointer and ends with it
orders :
    (order 0x00 3 ≡ 0 ∷ 1 ∷ 2 ∷ 3 ∷ 4 ∷ 5 ∷ 6 ∷ 7 ∷ [])
    × (order 0x01 3 ≡ 4 ∷ 5 ∷ 6 ∷ 7 ∷ 0 ∷ 1 ∷ 2 ∷ 3 ∷ [])
orders = (refl, refl)

-- ISR bit 3, fixed: pending 3 alone is no candidate, pending 2 is; masked or disarmed it is none
candidates :
    (candidate 0x08 0x00 0x08 0x80 7 ≡ None)
    × (candidate 0x04 0x00 0x08 0x80 7 ≡ Some 2)
    × (candidate 0x04 0x04 0x00 0x80 7 ≡ None)
    × (candidate 0x04 0x00 0x00 0x00 7 ≡ None)
unfolding candidate candidate_in first_in
candidates = (refl, refl, refl, refl)

-- clear-highest in rotating order, with 3 answered and then 5, clears 3; on an empty ISR it does nothing
cleared : (clear_highest 0x28 0x01 5 ≡ 0x20) × (clear_highest 0x00 0x01 5 ≡ 0x00)
unfolding clear_highest clear_first first_in
cleared = (refl, refl)

-- the C caller's number: 254 for a pointer above 7, also in fixed order and disarmed; 255 for no candidate; else the channel
numbers :
    (search_number 0xFF 0x00 0x00 0x00 8 ≡ 254)
    × (search_number 0x00 0x00 0x00 0x80 7 ≡ 255)
    × (search_number 0xF0 0x10 0x00 0x80 7 ≡ 5)
unfolding search_number candidate candidate_in first_in
numbers = (refl, refl, refl)
