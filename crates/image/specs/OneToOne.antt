-- The layout is one to one: reading the image of a chain gives that chain, and writing what was read gives the same image.
use Rattle.std.specs.Prelude.{true, List, ◌≡◌, ℕ, ◌<◌, length}
use Rattle.chip.specs.declared.Chip.{Chip}
use Rattle.chain.specs.Fields.{chip_at}
use Rattle.chain.specs.declared.Chain.{Chain}
use Rattle.image.specs.Layout.{image_of}
use Rattle.image.specs.Reading.{chain_in, is_image}

-- What the types of the arrays say, and a list in a definition does not: a chip has eight codes and 32 bytes of memory,
pub record WholeChip (c : Chip) : Type 0 where
  pub eight_codes : length c.counts ≡ 8
  pub all_memory : length c.memory ≡ 32

-- and a chain has eight chip records.
pub record Whole (s : Chain) : Type 0 where
  pub eight_chips : length s.chips ≡ 8
  pub whole_chips : (i : ℕ) → i < 8 → WholeChip (chip_at s i)

pub record OneToOne : Type 0 where
  pub read_back : (s : Chain) → Whole s → chain_in (image_of s) ≡ s
  pub of_the_layout : (s : Chain) → Whole s → is_image (image_of s) ≡ true
  pub written_back : (b : List ℕ) → is_image b ≡ true → image_of (chain_in b) ≡ b
  pub read_whole : (b : List ℕ) → is_image b ≡ true → Whole (chain_in b)
