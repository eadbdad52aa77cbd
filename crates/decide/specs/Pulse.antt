-- The acknowledge pulse (the rules paper, events 7 and 8).
use Rattle.std.specs.Prelude.{Some, None, Ok, Bool, true, false, cond, eqb, ltb}
use Rattle.chip.specs.Acknowledge.{answered, response_byte, finished}
use Rattle.response.specs.Held.{reply_of, one_more}
use Rattle.response.specs.declared.Reply.{Reply}
use Rattle.response.specs.Held.{Response}
use Rattle.decide.specs.Change.{nothing, answering, replacing, setting}
use Rattle.decide.specs.declared.Change.{Change}
use Rattle.decide.specs.declared.Seen.{Seen}

-- what a first pulse selects: the candidate of the chip that answers, or nothing, and the pulse stalls
unfoldable pub selected_by : Seen → Response
selected_by v = cond (ltb v.at v.count) (Some (reply_of v.at v.chip)) None

-- IACK is low, and the responding chip drives the next byte, read from its memory now
unfoldable pub driving : Reply → Seen → Change
driving r v =
    answering (Ok (Some (response_byte v.chip r.level r.delivered))) (setting v.enable false (Some (one_more r)) nothing)

-- a first pulse: the selected chip answers its channel and drives the first byte, or the pulse stalls: accepted, no byte
unfoldable pub first_pulse : Response → Seen → Change
first_pulse None v = setting v.enable false None nothing
first_pulse (Some r) v = replacing v.at (answered r.channel v.chip) (driving r v)

-- IACK falls: with a response under way its chip drives the next byte; otherwise it is a first pulse
unfoldable pub fallen : Response → Seen → Change
fallen None v = first_pulse (selected_by v) v
fallen (Some r) v = driving r v

-- after the last byte the response ends, and the ISR bit of its channel clears if its ACR bit is then set
unfoldable pub risen_after : Bool → Reply → Seen → Change
risen_after true r v = replacing v.at (finished r.channel v.chip) (setting v.enable true None nothing)
risen_after false r v = setting v.enable true (Some r) nothing

-- IACK rises: after a stall nothing more changes
unfoldable pub risen : Response → Seen → Change
risen None v = setting v.enable true None nothing
risen (Some r) v = risen_after (eqb r.delivered r.length) r v
