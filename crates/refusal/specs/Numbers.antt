-- Document 01, "Numbers handed back": the table, and "the first that applies, in this order".
use Rattle.std.specs.Prelude.{Bool, true, false, cond, List, [], ◌∷◌, Option, Result, Ok, Err, ℕ}
use Rattle.refusal.specs.declared.Refusal.{Refusal}
use Rattle.refusal.specs.declared.Refusal.TheVariants.{NotSound, NoSuchChip, NoSuchChannel, NoSuchLevel, PulseUnderWay, IackThereAlready, UndefinedCommand, NoDestination, PastItsCount, BrokenEvent, ShortResults, UnknownKind}

abbrev pub refusal_number : Refusal → ℕ
refusal_number NotSound = 1
refusal_number NoSuchChip = 2
refusal_number NoSuchChannel = 3
refusal_number NoSuchLevel = 4
refusal_number PulseUnderWay = 5
refusal_number IackThereAlready = 6
refusal_number UndefinedCommand = 7
refusal_number NoDestination = 8
refusal_number PastItsCount = 9
refusal_number BrokenEvent = 10
refusal_number ShortResults = 11
refusal_number UnknownKind = 12

-- what a call is told before it changes anything: accepted, or why it is refused
abbrev pub Verdict : Type 0
Verdict = Result Unit Refusal

-- what an event answers: a byte where one was driven or read; or why it is refused
abbrev pub Answer : Type 0
Answer = Result (Option ℕ) Refusal

abbrev pub verdict_number : Verdict → ℕ
verdict_number (Ok _) = 0
verdict_number (Err why) = refusal_number why

abbrev pub is_accepted : Verdict → Bool
is_accepted (Ok _) = true
is_accepted (Err why) = false

-- of a list of tests, each with the refusal that it gives, the first that applies; accepted if none does
abbrev pub first_of_list : List (Bool × Refusal) → Verdict
first_of_list [] = Ok tt
first_of_list (check ∷ checks) = cond check.0 (Err check.1) (first_of_list checks)
