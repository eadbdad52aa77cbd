-- `text::words::word_end` meets its contract.
use Rattle.std.proofs.Common.{◌≡◌, ◌+◌, drop, sym, ◌∙◌, ap, rules, ℕ}
use Rattle.std.proofs.lemmas.Iterator.{YieldsList-from_slice}
use Rattle.std.proofs.lemmas.Iterator.Consumers.{count_from_yields_List}
use Rattle.std.proofs.lemmas.Iterator.Search.{YieldsList-from_take_while}
use Rattle.std.proofs.lemmas.Slice.{between_to_end}
use borrow.Author.Tests.{tests}
use Rattle.text.specs.Words.{is_letter, lead, word_end}
use Rattle.text.proofs.Reading.{lead_is}
use Rattle.text.proofs.words.word_end.Goals as goal

pub returns-clause-value : goal.returns-clause-value
unfolding word_end
returns-clause-value c =
    let rest = drop c.word_start-start.result c.args.line.now in
    let counted : c.count.result ≡ lead is_letter rest =
    count_from_yields_List c.take_while.result _ c.count.ensures.ran (YieldsList-from_take_while _ is_letter (YieldsList-from_slice rest (search (rules, between_to_end))) (cc) (cc) (λ x b q k. search (rules, tests)))
    ∙ sym (lead_is is_letter rest) in
    ap (λ (n : ℕ). c.word_start-start.result + n) counted ∙ ap (λ (n : ℕ). n + lead is_letter (drop n c.args.line.now)) c.word_start-start.ensures.value
