-- What owning a chain tells: its arrays have the lengths that their types say.
-- Assumes nothing.
use mathlib.Core.List.{List, [], ◌∷◌}
use Prim.Native.Nat.{ℕ, zero, suc, ◌<◌}
use native.Mathlib.Nat.{not-suc-le-zero, le_of_suc-le-suc}
use lib.ListN.{length, get_or}
use borrow.Author.Rules.{rules}
use Rattle.chip.specs.contracts.Chip.{the_row}
use Rattle.chip.specs.Fields.{zero_chip}
use Rattle.chip.specs.declared.Chip.{Chip}
use Rattle.image.specs.OneToOne.{WholeChip}
use mir.Val.{Val}
use denote.Array.{each}
use denote.Shadow.{shadow}

-- a chip that is owned
chip_whole : (c : Chip) (u : List Val) → shadow (the_row.own_val c u) → WholeChip c
chip_whole c u owned = record { eight_codes = search (owned, rules); all_memory = search (owned, rules) }

-- chips that are owned, each of them
pub chips_whole : (cs : List Chip) (us : List Val) → shadow (each the_row.Denot the_row.own_val cs us) → (i : ℕ) → i < length cs → WholeChip (get_or cs i zero_chip)
chips_whole [] us owned i h = absurd (not-suc-le-zero h)
chips_whole (c ∷ cs) [] owned i h = absurd owned
chips_whole (c ∷ cs) (u ∷ us) owned zero h = chip_whole c (u ∷ []) owned.0
chips_whole (c ∷ cs) (u ∷ us) owned (suc i) h = chips_whole cs us owned.1 i (le_of_suc-le-suc h)
