-- When the record of a response is sound (the rules paper, "A chip").
use Rattle.std.specs.Prelude.{Some, None, Bool, true, cond, ◌&&◌, ℕ, leb, ltb}
use Rattle.response.specs.declared.Reply.{Reply}
use Rattle.response.specs.Held.{Response}

-- at least 1 byte delivered, at most the length with IACK low, fewer with IACK high
abbrev pub delivered_sound : Bool → Reply → Bool
delivered_sound iack r = leb 1 r.delivered && cond iack (ltb r.delivered r.length) (leb r.delivered r.length)

-- a response names a chip in the count, channel and level at most 7, and has a length of 1 to 4
abbrev pub response_sound : ℕ → Bool → Response → Bool
response_sound count iack None = true
response_sound count iack (Some r) =
    ltb r.chip count && leb r.channel 7 && leb r.level 7 && leb 1 r.length && leb r.length 4 && delivered_sound iack r
