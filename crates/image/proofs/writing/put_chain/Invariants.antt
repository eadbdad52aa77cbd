-- `image::writing::put_chain` meets its contract. The loop's invariant: the head and the records passed so far have been written.
use Rattle.image.proofs.Records.{Written}
use Rattle.image.proofs.writing.put_chain.Given as goal

abbrev pub invariant-loop-i : goal.invariant-loop-i
invariant-loop-i l = Written l.image l.fn.chain l.i
