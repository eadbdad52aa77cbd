-- What an accepted event has passed: a chip that it names is below the count, and its own tests.
-- Assumes nothing.
use Rattle.std.specs.Prelude.{Ok}
use mathlib.Core.Bool.{Bool, true, false, not}
use mathlib.Core.List.{List, [], ◌∷◌, ◌++◌}
use mathlib.Core.Path.{◌≡◌, ap, sym, ◌∙◌}
use Prim.Native.Nat.{ℕ, ◌<◌}
use lib.Dec.{leb}
use borrow.Author.Tests.{leb-false, not-false}
use Rattle.refusal.proofs.Numbers.{not_both, passed_first, passed_rest, refused_already, accepted_so_far}
use Rattle.refusal.specs.Numbers.{is_accepted, first_of_list}
use Rattle.refusal.specs.declared.Refusal.{Refusal}
use Rattle.refusal.specs.declared.Refusal.TheVariants.{NoSuchChip, PulseUnderWay, IackThereAlready, NoDestination, PastItsCount}
use Rattle.refusal.specs.Numbers.{Verdict}
use Rattle.event.specs.Numbers.{in_numbers}
use Rattle.event.specs.declared.Event.{Event}
use Rattle.event.specs.declared.Event.TheVariants.{Command, Data, Status, Read, Line, Enable, Fall, Rise}
use Rattle.chip.specs.Data.{is_past_its_count}
use Rattle.decide.specs.Refusals.{no_such_chip, no_such_channel, no_such_level, pulse_under_way, undefined_command, no_destination, past_its_count, verdict_on}
use Rattle.decide.specs.declared.Seen.{Seen}

-- tests of which the first is that of the chip: accepted, the chip is below the count
pub named_below : (count i : ℕ) (rest : List (Bool × Refusal)) → first_of_list (no_such_chip count i ∷ rest) ≡ Ok tt → i < count
named_below count i rest v = leb-false count i (passed_first (leb count i) NoSuchChip rest v)

-- events 1 to 5 name a chip
pub passed_names : (e : Event) (v : Seen) → leb (in_numbers e).kind 5 ≡ true → verdict_on e v ≡ Ok tt → v.at < v.count
passed_names (Command i code) v named ok = named_below v.count v.at (pulse_under_way v.iack ∷ undefined_command code ∷ []) ok
passed_names (Data i byte) v named ok =
    named_below v.count v.at (pulse_under_way v.iack ∷ no_destination v.chip ∷ past_its_count v.chip ∷ []) ok
passed_names (Status i) v named ok = named_below v.count v.at (pulse_under_way v.iack ∷ []) ok
passed_names (Read i) v named ok = named_below v.count v.at (pulse_under_way v.iack ∷ []) ok
passed_names (Line i channel level) v named ok = named_below v.count v.at (no_such_channel channel ∷ no_such_level level ∷ []) ok
passed_names (Enable level) v named ok = not_both named
passed_names Fall v named ok = not_both named
passed_names Rise v named ok = not_both named

pub passed_data : (i byte : ℕ) (v : Seen) → verdict_on (Data i byte) v ≡ Ok tt → is_past_its_count v.chip.counts v.chip.destination ≡ false
passed_data i byte v ok =
    passed_first (is_past_its_count v.chip.counts v.chip.destination) PastItsCount []
    (passed_rest (no_destination v.chip).0 NoDestination (past_its_count v.chip ∷ [])
    (passed_rest (not v.iack) PulseUnderWay (no_destination v.chip ∷ past_its_count v.chip ∷ [])
    (passed_rest (leb v.count v.at) NoSuchChip (pulse_under_way v.iack ∷ no_destination v.chip ∷ past_its_count v.chip ∷ []) ok)))

pub passed_fall : (v : Seen) → verdict_on Fall v ≡ Ok tt → v.iack ≡ true
passed_fall v ok = not-false v.iack (passed_first (not v.iack) IackThereAlready [] ok)

pub passed_rise : (v : Seen) → verdict_on Rise v ≡ Ok tt → v.iack ≡ false
passed_rise v ok = passed_first v.iack IackThereAlready [] ok

-- tests in two parts: where the first part refuses, that is the verdict; where it accepts, the rest decides
pub refused_at_first : (first rest : List (Bool × Refusal)) (v : Verdict) (ok : Bool) → v ≡ first_of_list first → ok ≡ is_accepted v → ok ≡ false
    → v ≡ first_of_list (first ++ rest)
refused_at_first first rest v ok is told e = is ∙ sym (refused_already first rest (ap is_accepted (sym is) ∙ sym told ∙ e))

pub left_to_the_rest : (first rest : List (Bool × Refusal)) (v : Verdict) (ok : Bool) → v ≡ first_of_list first → ok ≡ is_accepted v → ok ≡ true
    → first_of_list (first ++ rest) ≡ first_of_list rest
left_to_the_rest first rest v ok is told e = accepted_so_far first rest (ap is_accepted (sym is) ∙ sym told ∙ e)

pub rest_decides : (first rest : List (Bool × Refusal)) (v : Verdict) (ok : Bool) (r : Verdict) → v ≡ first_of_list first → ok ≡ is_accepted v → ok ≡ true
    → r ≡ first_of_list rest
    → r ≡ first_of_list (first ++ rest)
rest_decides first rest v ok r is told e on = on ∙ sym (left_to_the_rest first rest v ok is told e)
