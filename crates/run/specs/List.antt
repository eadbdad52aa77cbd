-- Lists of events as bytes (the rules paper, "Views and runs"): four an event, its numbers in their order.
use Rattle.std.specs.Prelude.{List, ℕ, ◌+◌, ◌*◌, get_or}
use Rattle.event.specs.Numbers.{listed}
use Rattle.event.specs.Numbers.{Listed}

-- the n-th event of a list of bytes, from 0
unfoldable pub listed_at : List ℕ → ℕ → Listed
listed_at bytes n = listed (get_or bytes (4 * n) 0) (get_or bytes (4 * n + 1) 0) (get_or bytes (4 * n + 2) 0) (get_or bytes (4 * n + 3) 0)
