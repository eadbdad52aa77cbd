-- A step as it is spelled is read as that step. So every line of a page that names a step says all of it, and these steps, one under the other, are a list again.
use Rattle.std.specs.Prelude.{true, false, ◌≡◌, ℕ, ◌≤◌}
use Rattle.event.specs.Numbers.{numbered, in_numbers}
use Rattle.event.specs.declared.Event.{Event}
use Rattle.event.specs.declared.Numbered.{Numbered}
use Rattle.steps.specs.Lines.{step_of}
use Rattle.steps.specs.Spelled.{spelled}
use Rattle.steps.specs.declared.Step.TheVariants.{Start, Happens}

-- numbers of eight bits, as those of every step are
abbrev pub InBytes : Numbered → Type 0
InBytes n = (n.chip ≤ 255) × (n.channel ≤ 255) × (n.value ≤ 255)

pub record OneSpelling : Type 0 where
  pub an_event : (e : Event) → InBytes (in_numbers e) → step_of true (spelled (in_numbers e)) ≡ Happens e
  pub the_start : (count fill : ℕ) → count ≤ 255 → fill ≤ 255 → step_of false (spelled (numbered 0 count 0 fill)) ≡ Start count fill
