-- What is seen of a sound chain: a chip in the count is sound, and so is the response.
use Rattle.std.specs.Prelude.{Bool, true, cond, ◌&&◌, ltb}
use Rattle.chip.specs.Sound.{chip_sound}
use Rattle.response.specs.Sound.{response_sound}
use Rattle.decide.specs.declared.Seen.{Seen}

unfoldable pub seen_sound : Seen → Bool
seen_sound v = cond (ltb v.at v.count) (chip_sound v.chip) true && response_sound v.count v.iack v.response
