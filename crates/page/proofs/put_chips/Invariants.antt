-- `page::put_chips` meets its contract.
use Rattle.std.proofs.Common.{◌≡◌, ◌-◌}
use Rattle.page.specs.Page.{chips_from}
use Rattle.text.specs.Written.{written}
use Rattle.page.proofs.put_chips.Given as goal

-- what is left to be written are the lines of the chips from i on
abbrev pub invariant-loop-i : goal.invariant-loop-i
invariant-loop-i l =
    written (l.initial.to, l.at) (chips_from l.chain.count 0 l.chain) ≡ written (l.to, l.next) (chips_from (l.chain.count - l.i) l.i l.chain)
