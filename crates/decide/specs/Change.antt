-- What an event does, put together: it may answer with a byte, replace a chip, set the chain's own fields.
use Rattle.std.specs.Prelude.{Bool, Some, None, Ok, ℕ}
use Rattle.refusal.specs.Numbers.{Answer}
use Rattle.chip.specs.declared.Chip.{Chip}
use Rattle.response.specs.Held.{Response}
use Rattle.decide.specs.declared.Change.{Change}

-- nothing changes, and no byte is driven or read
unfoldable pub nothing : Change
nothing = record { answer = Ok None; replaced = None; own = None }

unfoldable pub answering : Answer → Change → Change
answering new c = record { answer = new; replaced = c.replaced; own = c.own }

-- chip i is replaced
unfoldable pub replacing : ℕ → Chip → Change → Change
replacing i new c = record { answer = c.answer; replaced = Some (record { at = i; chip = new }); own = c.own }

-- the chain's own fields are set: Enable In, IACK and the response
unfoldable pub setting : Bool → Bool → Response → Change → Change
setting enable iack response c =
    record { answer = c.answer; replaced = c.replaced; own = Some (record { enable = enable; iack = iack; response = response }) }
