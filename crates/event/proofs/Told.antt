-- The four numbers of an event are read as that event, and a kind names its event.
-- Assumes nothing.
use Rattle.std.specs.Prelude.{Ok, Err}
use Rattle.std.proofs.Common.{◌≡◌, ℕ, true, sym, refl, ap, ◌∙◌, eqb-true}
use Rattle.event.specs.Numbers.{listed, in_numbers, is_kind, is_fall, Listed}
use Rattle.event.specs.declared.Event.{Event}
use Rattle.event.specs.declared.Event.TheVariants.{Command, Data, Status, Read, Line, Enable, Fall, Rise}

pub read_as_written : (e : Event) → listed (in_numbers e).kind (in_numbers e).chip (in_numbers e).channel (in_numbers e).value ≡ Ok e
read_as_written (Command chip code) = refl
read_as_written (Data chip byte) = refl
read_as_written (Status chip) = refl
read_as_written (Read chip) = refl
read_as_written (Line chip channel level) = refl
read_as_written (Enable level) = refl
read_as_written Fall = refl
read_as_written Rise = refl

-- so the kind of an event tells which it is
abbrev known : Event → Listed → Event
known other (Ok e) = e
known other (Err _) = other

of_kind : (e : Event) (kind : ℕ) → is_kind kind e ≡ true → e ≡ known e (listed kind (in_numbers e).chip (in_numbers e).channel (in_numbers e).value)
of_kind e kind h =
    ap (known e)
    (sym (read_as_written e) ∙ ap (λ (k : ℕ). listed k (in_numbers e).chip (in_numbers e).channel (in_numbers e).value) (eqb-true (in_numbers e).kind kind h))

pub is_fall_lem : (e : Event) → is_fall e ≡ true → e ≡ Fall
is_fall_lem e h = of_kind e 7 h
