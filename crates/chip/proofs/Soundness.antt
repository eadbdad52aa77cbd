-- What a sound chip's record says of each of its parts.
-- Assumes nothing.
use mathlib.Core.Bool.{true, false, ◌&&◌}
use mathlib.Core.Path.{◌≡◌, ap, sym, ◌∙◌}
use Prim.Native.Nat.{ℕ, ◌+◌, ◌≤◌, ◌<◌}
use native.Mathlib.Omega.{arith}
use lib.Dec.{leb}
use lib.ListN.{get_or}
use borrow.Author.Tests.{leb-true, leb-false}
use Rattle.bits.proofs.Below.{both_left, both_right, every_each}
use Rattle.chip.specs.Data.{is_past_its_count}
use Rattle.chip.specs.Sound.{codes_sound, chip_sound, destination_sound}
use Rattle.chip.specs.declared.Chip.{Chip}
use Rattle.chip.specs.declared.Destination.{Destination}
use Rattle.chip.specs.declared.Destination.TheVariants.{Level}

pub codes_sound_lem : (c : Chip) → chip_sound c ≡ true → codes_sound c.counts ≡ true
unfolding chip_sound
codes_sound_lem c e = both_left _ (leb c.pointer 7) (both_left _ (destination_sound c.destination) e)

pub pointer_sound : (c : Chip) → chip_sound c ≡ true → leb c.pointer 7 ≡ true
unfolding chip_sound
pointer_sound c e = both_right (codes_sound c.counts) _ (both_left _ (destination_sound c.destination) e)

pub destination_sound_lem : (c : Chip) → chip_sound c ≡ true → destination_sound c.destination ≡ true
unfolding chip_sound
destination_sound_lem c e = both_right (codes_sound c.counts && leb c.pointer 7) _ e

-- a code is at most 3
pub code_le : (c : Chip) (level : ℕ) → chip_sound c ≡ true → level < 8 → get_or c.counts level 0 ≤ 3
unfolding codes_sound
code_le c level e h = leb-true _ 3 (every_each 8 (λ level. leb (get_or c.counts level 0) 3) (codes_sound_lem c e) level h)

-- a chosen level is at most 7
pub level_le : (c : Chip) (level place : ℕ) → chip_sound c ≡ true → c.destination ≡ Level level place → level ≤ 7
level_le c level place e d = leb-true level 7 (both_left _ (leb place 4) (ap destination_sound (sym d) ∙ destination_sound_lem c e))

-- and its place at most 4
pub place_le : (c : Chip) (level place : ℕ) → chip_sound c ≡ true → c.destination ≡ Level level place → place ≤ 4
place_le c level place e d = leb-true place 4 (both_right (leb level 7) _ (ap destination_sound (sym d) ∙ destination_sound_lem c e))

-- a place that is not past its count is a place of the memory
pub place_lt : (c : Chip) (level place : ℕ) → chip_sound c ≡ true → c.destination ≡ Level level place → is_past_its_count c.counts c.destination ≡ false → place < 4
place_lt c level place e d left =
    let before : place < get_or c.counts level 0 + 1 =
    leb-false _ place (ap (λ (d : Destination). is_past_its_count c.counts d) (sym d) ∙ left) in
    let within : level ≤ 7 = level_le c level place e d in
    let code : get_or c.counts level 0 ≤ 3 = code_le c level e (omega arith) in
    omega arith
