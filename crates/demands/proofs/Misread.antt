-- The cases against the paper's misreadings, computed from the definitions.
-- Assumes nothing.
use mathlib.Core.Path.{refl}
use Rattle.demands.specs.Bench.{all}
use Rattle.demands.specs.Cases.{Hold}
use Rattle.demands.specs.Misread.{misreadings}
use Rattle.chain.proofs.Rules.{rules}
use Rattle.views.specs.Views.{register_view, pin_view}

pub not_misread : Hold misreadings
unfolding rules register_view pin_view all
not_misread = (refl, (refl, (refl, (refl, (refl, tt)))))
