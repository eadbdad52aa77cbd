-- K1 to K12, together: each list of steps is computed from the definitions, and the event number's law gives K12.
-- Assumes nothing.
use mathlib.Core.Path.{refl, ap, ◌∙◌}
use Prim.Native.Nat.{ℕ, ◌+◌, ◌%◌}
use Rattle.chain.proofs.Number.{number_counts}
use Rattle.demands.specs.Bench.{all}
use Rattle.demands.specs.Cases.{K12, cases, Hold}
use Rattle.chain.proofs.Rules.{rules}
use Rattle.views.specs.Views.{register_view, pin_view}

k12 : K12
k12 s e full zero = number_counts e s zero ∙ ap (λ (n : ℕ). (n + 1) % 65536) full

pub bench : Hold cases
unfolding rules register_view pin_view all
bench = (refl, (refl, (refl, (refl, (refl, (λ fourth. refl, (refl, (refl, (refl, (refl, (refl, (k12, tt))))))))))))
