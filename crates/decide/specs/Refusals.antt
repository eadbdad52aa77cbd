-- When an event is refused (the rules paper, "Numbers handed back"): each test of the table with its refusal, over what the test looks at, and which of them each
-- event takes. (1, chain not sound, comes before all others: `chain/specs/Refusals`.)
use Rattle.std.specs.Prelude.{Bool, not, List, [], ◌∷◌, ℕ, leb, ltb}
use Rattle.refusal.specs.Numbers.{first_of_list}
use Rattle.refusal.specs.declared.Refusal.{Refusal}
use Rattle.refusal.specs.declared.Refusal.TheVariants.{NoSuchChip, NoSuchChannel, NoSuchLevel, PulseUnderWay, IackThereAlready, UndefinedCommand, NoDestination, PastItsCount}
use Rattle.refusal.specs.Numbers.{Verdict}
use Rattle.event.specs.declared.Event.{Event}
use Rattle.event.specs.declared.Event.TheVariants.{Command, Data, Status, Read, Line, Enable, Fall, Rise}
use Rattle.chip.specs.Data.{has_no_destination, is_past_its_count}
use Rattle.figure4.specs.Figure4.{figure4, undefined}
use Rattle.chip.specs.declared.Chip.{Chip}
use Rattle.decide.specs.declared.Seen.{Seen}

-- 2: chip not below the count
abbrev pub no_such_chip : ℕ → ℕ → Bool × Refusal
no_such_chip count i = (leb count i, NoSuchChip)

-- 3: line event, channel above 7
abbrev pub no_such_channel : ℕ → Bool × Refusal
no_such_channel channel = (ltb 7 channel, NoSuchChannel)

-- 4: line or enable event, level above 1
abbrev pub no_such_level : ℕ → Bool × Refusal
no_such_level level = (ltb 1 level, NoSuchLevel)

-- 5: events 1 to 4 while IACK is low
abbrev pub pulse_under_way : Bool → Bool × Refusal
pulse_under_way iack = (not iack, PulseUnderWay)

-- 6: IACK already at that level
abbrev pub iack_there_already : Bool → Bool × Refusal
iack_there_already there = (there, IackThereAlready)

-- 7: undefined command
abbrev pub undefined_command : ℕ → Bool × Refusal
undefined_command code = (undefined (figure4 code), UndefinedCommand)

-- 8: data write, no destination
abbrev pub no_destination : Chip → Bool × Refusal
no_destination c = (has_no_destination c.destination, NoDestination)

-- 9: data write to a level, place at or past its count
abbrev pub past_its_count : Chip → Bool × Refusal
past_its_count c = (is_past_its_count c.counts c.destination, PastItsCount)

-- the tests that an event on a sound chain has to pass, in the paper's order
abbrev pub checks : Event → Seen → List (Bool × Refusal)
checks (Command i code) v = no_such_chip v.count v.at ∷ pulse_under_way v.iack ∷ undefined_command code ∷ []
checks (Data i byte) v = no_such_chip v.count v.at ∷ pulse_under_way v.iack ∷ no_destination v.chip ∷ past_its_count v.chip ∷ []
checks (Status i) v = no_such_chip v.count v.at ∷ pulse_under_way v.iack ∷ []
checks (Read i) v = no_such_chip v.count v.at ∷ pulse_under_way v.iack ∷ []
checks (Line i channel level) v = no_such_chip v.count v.at ∷ no_such_channel channel ∷ no_such_level level ∷ []
checks (Enable level) v = no_such_level level ∷ []
checks Fall v = iack_there_already (not v.iack) ∷ []
checks Rise v = iack_there_already v.iack ∷ []

-- the first that applies, or accepted
abbrev pub verdict_on : Event → Seen → Verdict
verdict_on e v = first_of_list (checks e v)
