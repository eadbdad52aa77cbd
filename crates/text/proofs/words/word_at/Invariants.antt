-- `text::words::word_at` meets its contract. The loop's invariant: the word is as many words on in the rest as are left.
use Rattle.std.proofs.Common.{◌≡◌, ◌-◌}
use Rattle.text.specs.Words.{word_at}
use Rattle.text.proofs.words.word_at.Given as goal

abbrev pub invariant-loop : goal.invariant-loop
invariant-loop l = word_at l.k l.line ≡ word_at (l.k - l.counter) l.rest
