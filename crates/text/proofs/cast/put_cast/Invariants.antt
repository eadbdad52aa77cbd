-- `text::cast::put_cast` meets its contract. The loop's invariant: the whole is what is left of the text, in its other form, written behind what has been.
use Rattle.std.proofs.Common.{◌≡◌, drop}
use Rattle.text.specs.Cast.{cast}
use Rattle.text.specs.Written.{written}
use Rattle.text.proofs.cast.put_cast.Given as goal

abbrev pub invariant-loop-c : goal.invariant-loop-c
invariant-loop-c l = written (l.initial.to, l.at) (cast l.how l.from) ≡ written (l.to, l.next) (cast l.how (drop l.c-index l.from))
