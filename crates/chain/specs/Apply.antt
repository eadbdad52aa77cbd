-- What an accepted event does, applied to a chain: at most one chip is replaced, and the event is counted.
use Rattle.std.specs.Prelude.{Option, Some, None}
use Rattle.event.specs.Counting.{next_number}
use Rattle.event.specs.declared.Event.{Event}
use Rattle.refusal.specs.Numbers.{Answer}
use Rattle.decide.specs.Decided.{decided}
use Rattle.decide.specs.declared.Change.{Change}
use Rattle.decide.specs.declared.Own.{Own}
use Rattle.decide.specs.declared.Replaced.{Replaced}
use Rattle.chain.specs.Fields.{with_chip, with_own, with_event}
use Rattle.chain.specs.Seen.{seen_by}
use Rattle.chain.specs.declared.Chain.{Chain}

-- the chip that is replaced, if one is
abbrev pub replacing_in : Option Replaced → Chain → Chain
replacing_in (Some r) s = with_chip r.at r.chip s
replacing_in None s = s

unfoldable pub replaced_in : Change → Chain → Chain
replaced_in c s = replacing_in c.replaced s

-- the chain's own fields, if they are set
abbrev pub setting_in : Option Own → Chain → Chain
setting_in (Some own) s = with_own own.enable own.iack own.response s
setting_in None s = s

unfoldable pub set_in : Change → Chain → Chain
set_in c s = setting_in c.own s

unfoldable pub applied : Change → Chain → Chain
applied c s = set_in c (replaced_in c s)

-- what an event does in a chain
unfoldable pub decision : Event → Chain → Change
decision e s = decided e (seen_by e s)

-- what an accepted event answers: a byte where one was driven or read
abbrev pub answer_of : Event → Chain → Answer
answer_of e s = (decision e s).answer

-- the chain after an accepted event, but for its event number
unfoldable pub changed : Event → Chain → Chain
changed e s = applied (decision e s) s

-- one more accepted event is counted
unfoldable pub counted : Chain → Chain
counted s = with_event (next_number s.event) s
