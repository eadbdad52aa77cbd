-- An event as four numbers (the rules paper, "Views and runs"): kind 1 to 8, chip, channel, value; unused ones are ignored.
use Rattle.std.specs.Prelude.{ℕ, Bool, cond, ◌==◌, Result, Ok, Err}
use Rattle.event.specs.declared.Event.{Event}
use Rattle.event.specs.declared.Event.TheVariants.{Command, Data, Status, Read, Line, Enable, Fall, Rise}
use Rattle.event.specs.declared.Numbered.{Numbered}
use Rattle.event.specs.declared.UnknownKind.{UnknownKind}

-- what four numbers are: an event, or of no kind that is known
abbrev pub Listed : Type 0
Listed = Result Event UnknownKind

abbrev pub listed : ℕ → ℕ → ℕ → ℕ → Listed
listed kind chip channel value =
    cond (kind == 1) (Ok (Command chip value))
    (cond (kind == 2) (Ok (Data chip value))
    (cond (kind == 3) (Ok (Status chip))
    (cond (kind == 4) (Ok (Read chip))
    (cond (kind == 5) (Ok (Line chip channel value))
    (cond (kind == 6) (Ok (Enable value))
    (cond (kind == 7) (Ok Fall)
    (cond (kind == 8) (Ok Rise)
    (Err (record { 0 = kind })))))))))

-- four numbers
abbrev pub numbered : ℕ → ℕ → ℕ → ℕ → Numbered
numbered kind chip channel value = record { kind = kind; chip = chip; channel = channel; value = value }

-- those of an event; what its kind does not use is 0
abbrev pub in_numbers : Event → Numbered
in_numbers (Command chip code) = numbered 1 chip 0 code
in_numbers (Data chip byte) = numbered 2 chip 0 byte
in_numbers (Status chip) = numbered 3 chip 0 0
in_numbers (Read chip) = numbered 4 chip 0 0
in_numbers (Line chip channel level) = numbered 5 chip channel level
in_numbers (Enable level) = numbered 6 0 0 level
in_numbers Fall = numbered 7 0 0 0
in_numbers Rise = numbered 8 0 0 0

-- the event is of a kind
abbrev pub is_kind : ℕ → Event → Bool
is_kind kind e = (in_numbers e).kind == kind

abbrev pub is_fall : Event → Bool
is_fall e = is_kind 7 e
