-- Start (the rules paper, "A chip"): a chip count and a fill byte.
use Rattle.std.specs.Prelude.{None, Ok, Err, true, cond, ℕ, replicate}
use Rattle.chip.specs.Reset.{power_up}
use Rattle.refusal.specs.declared.Refusal.TheVariants.{NotSound}
use Rattle.chain.specs.Fields.{zero_chain}
use Rattle.chain.specs.Sound.{count_sound}
use Rattle.chain.specs.declared.Chain.{Chain}
use Rattle.chain.specs.declared.Outcome.{Outcome}

-- all eight records are the power-up chip; EI and IACK high, event number 0, no response
unfoldable pub started : ℕ → ℕ → Chain
started count fill =
    record { count = count; chips = replicate 8 (power_up fill); enable = true; iack = true; response = None; event = 0 }

-- refused by 1 if the count is outside 1 to 8
unfoldable pub start_of : ℕ → ℕ → Outcome
start_of count fill =
    cond (count_sound count)
    (record { answer = Ok None; chain = started count fill })
    (record { answer = Err NotSound; chain = zero_chain })
