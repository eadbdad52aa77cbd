-- `chain::Chain::has_sound_chips` meets its contract.
use Rattle.std.proofs.Common.{ℕ, Bool, refl, ◌∙◌, rules, tests}
use native.Mathlib.Omega.{arith}
use Rattle.std.proofs.lemmas.Iterator.{YieldsList-from_range}
use Rattle.std.proofs.lemmas.Iterator.Search.{all_from_yields_List}
use Rattle.chip.specs.Sound.{chip_sound}
use Rattle.chain.specs.Fields.{chip_at}
use Rattle.chain.specs.Sound.{chips_sound}
use Rattle.chain.proofs.Each.{all_below}
use Rattle.chain.proofs.Chain.has_sound_chips.Goals as goal

pub returns : goal.returns
unfolding chips_sound
returns c =
    let each : ℕ → Bool = λ i. chip_sound (chip_at c.args.self i) in
    all_from_yields_List each _ _ _ c.all.ensures.ran (YieldsList-from_range 0 c.args.self.count c.args.self.count refl (omega arith)) (λ x b q k. search (rules, tests))
    ∙ all_below c.args.self.count each
