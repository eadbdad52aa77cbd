-- How long a message may be.
-- Assumes nothing.
use mathlib.Core.Bool.{Bool, true, false, cond}
use mathlib.Core.List.{List, []}
use Prim.Native.Nat.{ℕ, ◌≤◌}
use native.Mathlib.Omega.{arith}
use lib.Dec.{eqb}
use lib.ListN.{length, take, length-take}
use Rattle.event.specs.declared.Numbered.{Numbered}
use Rattle.refusal.proofs.EverySentence.{every_sentence}
use Rattle.refusal.specs.Numbers.{refusal_number}
use Rattle.refusal.specs.declared.Refusal.{Refusal}
use Rattle.messages.specs.Messages.{refused_parts, refused_line, slots, slot, helps, help, form_parts, wanted_parts, expected_parts, found_text, has_mark, has0x, name_hint, number_hints, hint, malformed_parts, malformed_line}
use Rattle.steps.proofs.Bounds.{name_le, spelled_le}
use Rattle.steps.specs.Kinds.{in_capitals, form_of, argument_number}
use Rattle.steps.specs.declared.Argument.{Argument}
use Rattle.steps.specs.declared.Expected.{Expected}
use Rattle.steps.specs.declared.Expected.TheVariants.{Shorter, TheStart, AnEvent, Wanted}
use Rattle.steps.specs.declared.Form.{Form}
use Rattle.text.proofs.Fits.{joined_le, joined_total, field_le}
use Rattle.text.proofs.InOtherForm.{length_cast}
use Rattle.text.proofs.Places.{line_le}
use Rattle.text.specs.Cast.{cast}
use Rattle.text.specs.Tables.{line_in}
use Rattle.text.specs.Written.{text, joined}
use Rattle.text.specs.declared.Way.TheVariants.{Shown}

pub refused_le : (line : ℕ) (step : Numbered) (why : Refusal) → length (refused_line line step why) ≤ 1024
unfolding refused_line
refused_le line step why =
    omega (
      arith,
      joined_total (refused_parts line step (refusal_number why)),
      field_le "at " line (omega arith),
      spelled_le step,
      field_le " refused " (refusal_number why) (omega arith),
      every_sentence.has_room (refusal_number why),
    )

slot_le : (a : Argument) → length (slot a) ≤ 64
unfolding slot
slot_le a = omega (arith, line_le (argument_number a) slots)

help_le : (a : Argument) → length (help a) ≤ 384
unfolding help
help_le a = omega (arith, line_le (argument_number a) helps)

form_le : (kind : ℕ) (form : Form) → length (joined (form_parts kind form)) ≤ 256
form_le kind form =
    joined_le 64 (form_parts kind form) (name_le kind, (slot_le form.chip, (slot_le form.channel, (slot_le form.value, tt))))

expected_le : (e : Expected) → length (joined (expected_parts e)) ≤ 768
expected_le Shorter = omega arith
expected_le TheStart = omega arith
expected_le AnEvent = omega arith
expected_le (Wanted kind argument) =
    omega (arith, joined_total (wanted_parts kind argument), slot_le argument, help_le argument, form_le kind (form_of kind))

-- one of some texts, none of which is longer than some length
one_of : (most : ℕ) (t : Bool) (x y : List ℕ) → length x ≤ most → length y ≤ most → length (cond t x y) ≤ most
one_of most true x y h g = h
one_of most false x y h g = g

found_le : (found : List ℕ) → length (found_text found) ≤ 40
found_le found =
    one_of 40 (eqb (length found) 0) (text "(no word)") (cast Shown (take 40 found)) (omega arith) (omega (arith, length_cast Shown (take 40 found), length-take 40 found))

name_hint_le : (found : List ℕ) → length (name_hint found) ≤ 80
name_hint_le found =
    one_of 80 (has_mark found) _ _ (omega arith) (one_of 80 (in_capitals found) _ [] (omega arith) (omega arith))

hint_le : (e : Expected) (found : List ℕ) → length (hint e found) ≤ 256
hint_le Shorter found = omega arith
hint_le TheStart found = omega (arith, name_hint_le found)
hint_le AnEvent found = omega (arith, name_hint_le found)
hint_le (Wanted kind argument) found =
    one_of 256 (has0x found) (line_in (argument_number argument) number_hints) [] (omega (arith, line_le (argument_number argument) number_hints)) (omega arith)

pub malformed_le : (line : ℕ) (e : Expected) (found : List ℕ) → length (malformed_line line e found) ≤ 1280
unfolding malformed_line
malformed_le line e found =
    omega (arith, joined_total (malformed_parts line e found), field_le "at " line (omega arith), found_le found, expected_le e, hint_le e found)
