-- The views tried where no event list from a start leads: a refused start, a pulse under way, an absent chip.
-- Assumes nothing.
use Rattle.std.specs.Prelude.{None, Ok, Err}
use mathlib.Core.Bool.{true, false}
use mathlib.Core.Path.{◌≡◌, refl}
use Rattle.refusal.specs.declared.Refusal.TheVariants.{NotSound, NoSuchChip}
use Rattle.chain.proofs.Rules.{rules}
use Rattle.chain.specs.Fields.{with_own, zero_chain}
use Rattle.chain.specs.Start.{started}
use Rattle.views.specs.Views.{no_table, no_picture, register_view, pin_view}

-- on a refused start every view is refused by 1, its fields 0
after_a_refused_start :
    (register_view 0 zero_chain ≡ record { verdict = Err NotSound; table = no_table })
    × (pin_view 0 zero_chain ≡ record { verdict = Err NotSound; picture = no_picture })
unfolding rules register_view pin_view
after_a_refused_start = (refl, refl)

-- a view is given during a pulse, and refused by 2 for an absent chip
views :
    ((register_view 1 (with_own true false None (started 2 0))).verdict ≡ Ok tt)
    × (pin_view 2 (started 2 0) ≡ record { verdict = Err NoSuchChip; picture = no_picture })
unfolding rules register_view pin_view
views = (refl, refl)
