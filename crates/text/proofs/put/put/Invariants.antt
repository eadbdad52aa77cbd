-- `text::put::put` meets its contract. The loop's invariant: the whole is what is left of the text, written behind what has been.
use Rattle.std.proofs.Common.{◌≡◌, drop}
use Rattle.text.specs.Written.{written}
use Rattle.text.proofs.put.put.Given as goal

abbrev pub invariant-loop-byte : goal.invariant-loop-byte
invariant-loop-byte l = written (l.initial.to, l.at) l.from ≡ written (l.to, l.place) (drop l.byte-index l.from)
