-- The event number (the rules paper, "A chip"): each accepted event adds one to it; from 65,535 it rolls over to 0.
use Rattle.std.specs.Prelude.{ℕ, ◌+◌, ◌%◌}

abbrev pub next_number : ℕ → ℕ
next_number number = (number + 1) % 65536
