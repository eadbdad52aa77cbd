-- The five ways in which an event puts another chip in the place of the one that it sees: a command, a data write, a line, a first pulse that is answered, and
-- the rise that ends a response. Whatever holds of each of them holds of every event that replaces a chip.
-- Assumes nothing.
use native.Mathlib.Omega.{arith}
use Rattle.std.specs.Prelude.{Some, None, IfSome}
use mathlib.Core.Bool.{Bool}
use mathlib.Core.Path.{◌≡◌}
use Prim.Native.Nat.{ℕ}
use lib.Dec.{eqb}
use Rattle.event.specs.declared.Event.{Event}
use Rattle.event.specs.declared.Event.TheVariants.{Command, Data, Line, Fall, Rise}
use Rattle.chip.specs.Acknowledge.{answered, finished}
use Rattle.chip.specs.Command.{commanded}
use Rattle.chip.specs.Data.{data_written}
use Rattle.figure4.specs.Figure4.{figure4}
use Rattle.chip.specs.Line.{line_set}
use Rattle.chip.specs.declared.Chip.{Chip}
use Rattle.response.specs.Held.{Response}
use Rattle.response.specs.declared.Reply.{Reply}
use Rattle.decide.proofs.Rules.{changes}
use Rattle.decide.specs.Decided.{decided}
use Rattle.decide.specs.Pulse.{selected_by, driving, first_pulse, fallen, risen_after, risen}
use Rattle.decide.specs.declared.Change.{Change}
use Rattle.decide.specs.declared.Seen.{Seen}

-- what holds of the chip that each of the five puts there, from what is seen by it
pub record Ways (by : Event → Seen) (P : Event → Chip → Type 0) : Type 0 where
  pub command : (i code : ℕ) → P (Command i code) (commanded (figure4 code) code (by (Command i code)).chip)
  pub data_write : (i byte : ℕ) → P (Data i byte) (data_written (by (Data i byte)).chip.destination byte (by (Data i byte)).chip)
  pub line : (i channel level : ℕ) → P (Line i channel level) (line_set channel (eqb level 1) (by (Line i channel level)).chip)
  pub first_pulse_lem : (r : Reply) → (by Fall).response ≡ None → selected_by (by Fall) ≡ Some r → P Fall (answered r.channel (by Fall).chip)
  pub last_rise : (r : Reply) → (by Rise).response ≡ Some r → P Rise (finished r.channel (by Rise).chip)

-- a change that replaces a chip replaces the one that is seen, by one of which this holds
abbrev Puts : Seen → (Chip → Type 0) → Change → Type 0
Puts v P c = IfSome c.replaced (λ replaced. (replaced.at ≡ v.at) × P replaced.chip)

first_puts : (found : Response) (v : Seen) (P : Chip → Type 0) → selected_by v ≡ found → ((r : Reply) → selected_by v ≡ Some r → P (answered r.channel v.chip))
    → Puts v P (first_pulse found v)
unfolding changes driving first_pulse
first_puts found v P is holds = search arith

fallen_puts : (response : Response) (v : Seen) (P : Chip → Type 0) → v.response ≡ response
    → ((r : Reply) → v.response ≡ None → selected_by v ≡ Some r → P (answered r.channel v.chip))
    → Puts v P (fallen response v)
unfolding changes driving fallen
fallen_puts response v P is holds = search (arith, first_puts)

after_puts : (last : Bool) (r : Reply) (v : Seen) (P : Chip → Type 0) → P (finished r.channel v.chip) → Puts v P (risen_after last r v)
unfolding changes risen_after
after_puts last r v P holds = search arith

risen_puts : (response : Response) (v : Seen) (P : Chip → Type 0) → v.response ≡ response
    → ((r : Reply) → v.response ≡ Some r → P (finished r.channel v.chip))
    → Puts v P (risen response v)
unfolding changes risen
risen_puts response v P is holds = search (arith, after_puts)

pub puts : (by : Event → Seen) (P : Event → Chip → Type 0) → Ways by P → (e : Event) → Puts (by e) (P e) (decided e (by e))
unfolding changes decided
puts by P w e = search (arith, fallen_puts, risen_puts)
