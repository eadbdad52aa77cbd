-- `image::form::has_records` meets its contract.
use Rattle.std.proofs.Common.{ℕ, List, ◌+◌, ◌*◌, ap, drop, refl, sym, ◌∙◌, rules, tests}
use denote.Ref.{Bor}
use Rattle.std.proofs.lemmas.Iterator.{YieldsList-from_range}
use Rattle.std.proofs.lemmas.Iterator.Search.{all_from_yields_List}
use Rattle.image.specs.Reading.{record_form}
use Rattle.image.proofs.Lists.{records_all}
use Rattle.image.proofs.form.has_records.Goals as goal

pub returns : goal.returns
returns c =
    let image : List ℕ = c.args.image.now in
    all_from_yields_List (λ (i : ℕ). record_form (drop (16 + 64 * i) image)) _ _ _ c.all.ensures.ran (YieldsList-from_range 0 8 8 refl refl) (λ x b q k. (ap (λ (r : Bor (List ℕ)). record { 0 = r }) k.met.1, search (rules, tests)))
    ∙ sym (records_all image)
