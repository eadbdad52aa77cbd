-- `image::writing::put_chain` meets its contract. The loop's invariant: the head and the records passed so far have been written.
use native.Mathlib.Omega.{arith}
use borrow.Author.Rules.{rules}
use Rattle.image.proofs.Records.{written_all}
use Rattle.image.proofs.writing.put_chain.Goals as goal

pub returns : goal.returns
returns c = written_all c.loop-i.image c.args.chain c.loop-i.i c.loop-i.invariant (omega arith) (search rules)
