-- `response::Walk::along` meets its contract. The loop's invariant: the walk has come to chip i.
use mathlib.Core.Path.{◌≡◌, ap, ap₂, sym, ◌∙◌}
use Prim.Native.Nat.{ℕ, ◌+◌}
use native.Mathlib.Numerals.{add-one}
use native.Mathlib.Omega.{arith}
use Rattle.chip.specs.declared.Chip.{Chip}
use Rattle.response.specs.Walk.{along, past}
use Rattle.response.specs.declared.Walk.{Walk}
use Rattle.response.proofs.Walk.along.Goals as goal

pub loop-i-init : goal.loop-i-init
unfolding along
loop-i-init g c = (c.requires, omega arith, ap (λ (w : Walk). w.at) c.at_first-walk.ensures, λ chips told. c.at_first-walk.ensures)

pub loop-i-preserved : goal.loop-i-preserved
unfolding along past
loop-i-preserved g c = (
  c.requires,
  omega arith,
  ap (λ (w : Walk). w.at) c.past-walk.ensures ∙ ap (λ (n : ℕ). n + 1) c.loop-i.invariant.2,
  λ chips told.
      c.past-walk.ensures
      ∙ ap₂ (λ (chip : Chip) (w : Walk). past chip c.args.response w) (told c.loop-i.i c.chip_at.result (omega arith) c.chip_at.ensures) (c.loop-i.invariant.3 chips told)
      ∙ sym (ap (along c.args.enable chips c.args.response) (add-one c.loop-i.i)),
)
