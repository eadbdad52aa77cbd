-- When a chain's record is sound (the rules paper, "A chip").
use Rattle.std.specs.Prelude.{Bool, ◌&&◌, ℕ, leb}
use Rattle.bits.specs.Below.{every}
use Rattle.chip.specs.Sound.{chip_sound}
use Rattle.response.specs.Sound.{response_sound}
use Rattle.chain.specs.Fields.{chip_at}
use Rattle.chain.specs.declared.Chain.{Chain}

-- a count of 1 to 8
abbrev pub count_sound : ℕ → Bool
count_sound count = leb 1 count && leb count 8

-- each chip in the count
unfoldable pub chips_sound : Chain → Bool
chips_sound s = every s.count (λ i. chip_sound (chip_at s i))

-- count 1 to 8; each chip in the count; and the response
unfoldable pub sound : Chain → Bool
sound s = count_sound s.count && chips_sound s && response_sound s.count s.iack s.response
