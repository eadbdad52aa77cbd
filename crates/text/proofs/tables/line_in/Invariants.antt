-- `text::tables::line_in` meets its contract. The loop's invariant: the line is as many lines on in the rest as are left.
use Rattle.std.proofs.Common.{◌≡◌, ◌-◌}
use Rattle.text.specs.Tables.{line_in}
use Rattle.text.proofs.tables.line_in.Given as goal

abbrev pub invariant-loop : goal.invariant-loop
invariant-loop l = line_in l.k l.text ≡ line_in (l.k - l.counter) l.rest
