-- `text::words::word_start` meets its contract.
use Rattle.std.proofs.Common.{sym, ◌∙◌, rules}
use Rattle.std.proofs.lemmas.Iterator.{YieldsList-from_slice}
use Rattle.std.proofs.lemmas.Iterator.Consumers.{count_from_yields_List}
use Rattle.std.proofs.lemmas.Iterator.Search.{YieldsList-from_take_while}
use borrow.Author.Tests.{tests}
use Rattle.text.specs.Words.{is_blank, word_start}
use Rattle.text.proofs.Reading.{lead_is}
use Rattle.text.proofs.words.word_start.Goals as goal

pub returns-clause-value : goal.returns-clause-value
unfolding word_start
returns-clause-value c =
    count_from_yields_List c.take_while.result _ c.count.ensures.ran (YieldsList-from_take_while _ is_blank (YieldsList-from_slice c.args.line.now (cc)) (cc) (cc) (λ x b q k. search (rules, tests)))
    ∙ sym (lead_is is_blank c.args.line.now)
