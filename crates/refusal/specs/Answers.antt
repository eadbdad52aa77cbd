-- What each answer hands back, in the paper's numbers (the rules paper, "Numbers handed back").
use Rattle.std.specs.Prelude.{Some, None, Ok, Err, ℕ}
use Rattle.refusal.specs.Numbers.{refusal_number, Verdict, Answer}

-- whether the event was accepted, or why it was refused
abbrev pub verdict_in : Answer → Verdict
verdict_in (Ok byte) = Ok tt
verdict_in (Err why) = Err why

-- an event hands back a number, 1 if a byte was driven or read, else 0, and that byte, else 0
pub record Handed : Type 0 where
  pub number : ℕ
  pub drove : ℕ
  pub byte : ℕ

abbrev pub handed : Answer → Handed
handed (Ok None) = record { number = 0; drove = 0; byte = 0 }
handed (Ok (Some b)) = record { number = 0; drove = 1; byte = b }
handed (Err why) = record { number = refusal_number why; drove = 0; byte = 0 }
