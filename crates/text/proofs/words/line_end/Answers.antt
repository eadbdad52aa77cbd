-- `text::words::line_end` meets its contract.
use Rattle.std.proofs.Common.{sym, ◌∙◌, rules}
use Rattle.std.proofs.lemmas.Iterator.{YieldsList-from_slice}
use Rattle.std.proofs.lemmas.Iterator.Consumers.{count_from_yields_List}
use Rattle.std.proofs.lemmas.Iterator.Search.{YieldsList-from_take_while}
use borrow.Author.Tests.{tests}
use Rattle.text.specs.Words.{is_inside, line_end}
use Rattle.text.proofs.Reading.{lead_is}
use Rattle.text.proofs.words.line_end.Goals as goal

pub returns-clause-value : goal.returns-clause-value
unfolding line_end
returns-clause-value c =
    count_from_yields_List c.take_while.result _ c.count.ensures.ran (YieldsList-from_take_while _ is_inside (YieldsList-from_slice c.args.text.now (cc)) (cc) (cc) (λ x b q k. search (rules, tests)))
    ∙ sym (lead_is is_inside c.args.text.now)
