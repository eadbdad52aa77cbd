-- `text::tables::place_in` meets its contract.
use Rattle.std.proofs.Common.{◌≡◌, ℕ, Option, Some, None, refl, ◌∙◌, rules, arith}
use Rattle.std.proofs.lemmas.Iterator.{YieldsList-from_range}
use Rattle.std.proofs.lemmas.Iterator.Search.{find_from_yields_List}
use Rattle.std.specs.Option.{option_map}
use Rattle.text.specs.Tables.{line_in, place_in}
use Rattle.text.specs.Words.{same}
use Rattle.text.proofs.Places.{place_is}
use Rattle.text.proofs.Reading.{same_is}
use Rattle.text.proofs.tables.place_in.Goals as goal

as_it_is : (r : Option ℕ) → r ≡ option_map (λ x. x) r
as_it_is None = refl
as_it_is (Some x) = refl

pub returns : goal.returns
unfolding place_in
returns c =
    let found = find_from_yields_List (λ i. same c.args.word.now (line_in i c.args.table.now)) _ _ c.find.result c.find.ensures.ran (YieldsList-from_range 0 c.args.lines c.args.lines (cc) (omega arith)) (λ x b q k. search (rules, same_is)) in
    as_it_is c.find.result ∙ found ∙ place_is c.args.lines 0 c.args.table.now c.args.word.now
