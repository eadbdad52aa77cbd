-- The cases of the corners, computed from the definitions.
-- Assumes nothing.
use mathlib.Core.Path.{refl}
use Rattle.chain.proofs.Rules.{rules}
use Rattle.views.specs.Views.{register_view, pin_view}
use Rattle.demands.specs.Bench.{all}
use Rattle.demands.specs.Cases.{Hold}
use Rattle.demands.specs.Corners.{corners}

pub cornered : Hold corners
unfolding rules register_view pin_view all
cornered = (refl, (refl, (refl, (refl, (refl, (refl, (refl, (refl, (refl, tt)))))))))
