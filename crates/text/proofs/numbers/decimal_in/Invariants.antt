-- `text::numbers::decimal_in` meets its contract. The loop's invariant: the word says what its rest says behind the digits so far.
use Rattle.std.proofs.Common.{◌≡◌, ◌≤◌, drop}
use Rattle.text.specs.Words.{decimal_in, decimal_from}
use Rattle.text.proofs.numbers.decimal_in.Given as goal

abbrev pub invariant-loop-c : goal.invariant-loop-c
invariant-loop-c l = (l.value ≤ 255) × (decimal_in l.word ≡ decimal_from l.value (drop l.c-index l.word))
