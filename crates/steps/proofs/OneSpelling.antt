-- A step as it is spelled is read as that step.
-- Assumes nothing.
use Rattle.std.specs.Prelude.{Some}
use mathlib.Core.Bool.{Bool, true, false, cond, not, ◌&&◌, false≢true}
use mathlib.Core.List.{List, [], ◌∷◌, ◌++◌}
use mathlib.Core.Path.{◌≡◌, refl, sym, ap, ap₂, ◌∙◌}
use Prim.Native.Nat.{ℕ, ◌-◌, ◌≤◌}
use native.Mathlib.Omega.{arith}
use borrow.Author.Tests.{le-ltb}
use lib.Dec.{eqb, ltb}
use lib.ListN.{length, get_or, take}
use lib.Seq.{take-length}
use Rattle.bits.proofs.Below.{both_left, both_right}
use Rattle.event.specs.Numbers.{numbered, in_numbers}
use Rattle.event.specs.declared.Event.{Event}
use Rattle.event.specs.declared.Event.TheVariants.{Command, Data, Status, Read, Line, Enable, Fall, Rise}
use Rattle.event.specs.declared.Numbered.{Numbered}
use Rattle.text.proofs.ReadBack.{each, each_append, each_at, plain_byte, plain, decimal_back, hex_back, number_back}
use Rattle.text.specs.Tables.{place_in}
use Rattle.text.specs.Words.{is_letter, lead, line_end, word_start, word_end, word, behind, decimal_in, hex_in}
use Rattle.text.specs.Written.{decimal, hex_byte}
use Rattle.steps.specs.Kinds.{name_of, kind_of, form_of}
use Rattle.steps.specs.Lines.{value_of, behind_argument, is_over, step_from, read_by, read_as, step_in, text_end, step_of}
use Rattle.steps.specs.OneSpelling.{InBytes, OneSpelling}
use Rattle.steps.specs.Spelled.{spelled_as, spelled}
use Rattle.steps.specs.declared.Argument.{Argument}
use Rattle.steps.specs.declared.Argument.TheVariants.{Count, Fill, Chip, Code, Byte, Channel, Level, End}
use Rattle.steps.specs.declared.Expected.TheVariants.{Shorter}
use Rattle.steps.specs.declared.Form.{Form}
use Rattle.steps.specs.declared.Step.{Step}
use Rattle.steps.specs.declared.Step.TheVariants.{Start, Happens, Malformed}
use Rattle.steps.proofs.Bounds.{spelled_le}

-- A number as an argument: what a step does not take is 0.
abbrev Taken : Argument → ℕ → Type 0
Taken Count n = n ≤ 255
Taken Fill n = n ≤ 255
Taken Chip n = n ≤ 255
Taken Code n = n ≤ 255
Taken Byte n = n ≤ 255
Taken Channel n = n ≤ 255
Taken Level n = n ≤ 255
Taken End n = n ≡ 0

-- what is read of an argument with a rest behind it: its number, and the rest
abbrev Reads : Argument → ℕ → List ℕ → Type 0
Reads a n rest = (value_of a (word (spelled_as a n ++ rest)) ≡ Some n) × (behind_argument a (spelled_as a n ++ rest) ≡ rest)

argument_read : (a : Argument) (n : ℕ) (rest : List ℕ) → Taken a n → lead is_letter rest ≡ 0 → Reads a n rest
unfolding behind_argument
argument_read Count n rest h none = number_back decimal decimal_in n rest (decimal_back n h) none
argument_read Fill n rest h none = number_back hex_byte hex_in n rest (hex_back n h) none
argument_read Chip n rest h none = number_back decimal decimal_in n rest (decimal_back n h) none
argument_read Code n rest h none = number_back hex_byte hex_in n rest (hex_back n h) none
argument_read Byte n rest h none = number_back hex_byte hex_in n rest (hex_back n h) none
argument_read Channel n rest h none = number_back decimal decimal_in n rest (decimal_back n h) none
argument_read Level n rest h none = number_back decimal decimal_in n rest (decimal_back n h) none
argument_read End n rest h none = (ap Some (sym h), refl)

-- an argument begins with a blank, or is none
begins_blank : (a : Argument) (n : ℕ) (rest : List ℕ) → lead is_letter rest ≡ 0 → lead is_letter (spelled_as a n ++ rest) ≡ 0
begins_blank Count n rest none = refl
begins_blank Fill n rest none = refl
begins_blank Chip n rest none = refl
begins_blank Code n rest none = refl
begins_blank Byte n rest none = refl
begins_blank Channel n rest none = refl
begins_blank Level n rest none = refl
begins_blank End n rest none = none

-- the three arguments of a form
abbrev arguments : Form → Numbered → List ℕ
arguments form n = spelled_as form.chip n.chip ++ (spelled_as form.channel n.channel ++ (spelled_as form.value n.value ++ []))

form_read :
    (kind : ℕ) (form : Form) (n : Numbered)
    → Taken form.chip n.chip
    → Taken form.channel n.channel
    → Taken form.value n.value
    → read_by kind form (arguments form n) ≡ step_from kind (Some n.chip) (Some n.channel) (Some n.value) true
unfolding read_by word_start word_end
form_read kind form n one two three =
    let last : List ℕ = spelled_as form.value n.value ++ [] in
    let later : List ℕ = spelled_as form.channel n.channel ++ last in
    let ends_last : lead is_letter last ≡ 0 = begins_blank form.value n.value [] refl in
    let first = argument_read form.chip n.chip later one (begins_blank form.channel n.channel last ends_last) in
    let second = argument_read form.channel n.channel last two ends_last in
    let third = argument_read form.value n.value [] three refl in
    ap (λ x. step_from kind x (value_of form.channel (word (behind_argument form.chip (arguments form n)))) (value_of form.value (word (behind_argument form.channel (behind_argument form.chip (arguments form n))))) (is_over (behind_argument form.value (behind_argument form.channel (behind_argument form.chip (arguments form n)))))) first.0
    ∙ ap (λ l. step_from kind (Some n.chip) (value_of form.channel (word l)) (value_of form.value (word (behind_argument form.channel l))) (is_over (behind_argument form.value (behind_argument form.channel l)))) first.1
    ∙ ap₂ (λ x l. step_from kind (Some n.chip) x (value_of form.value (word l)) (is_over (behind_argument form.value l))) second.0 second.1
    ∙ ap₂ (λ x l. step_from kind (Some n.chip) (Some n.channel) x (is_over l)) third.0 third.1

-- no byte of a step is a carriage return (13), so all of its line is text
abbrev no_return : ℕ → Bool
no_return c = not (eqb c 13)

plain_no_return : (w : List ℕ) → each plain_byte w ≡ true → each no_return w ≡ true
plain_no_return [] ok = refl
plain_no_return (c ∷ cs) ok =
    ap₂ (λ a b. a && b)
    (both_right (is_letter c) (no_return c) (both_left (plain_byte c) (each plain_byte cs) ok))
    (plain_no_return cs (both_right (plain_byte c) (each plain_byte cs) ok))

word_no_return : (w : List ℕ) → plain w ≡ true → each no_return w ≡ true
word_no_return w ok = plain_no_return w (both_right (ltb 0 (length w)) (each plain_byte w) ok)

argument_no_return : (a : Argument) (n : ℕ) → Taken a n → each no_return (spelled_as a n) ≡ true
argument_no_return Count n h = word_no_return (decimal n) (decimal_back n h).0
argument_no_return Fill n h = word_no_return (hex_byte n) (hex_back n h).0
argument_no_return Chip n h = word_no_return (decimal n) (decimal_back n h).0
argument_no_return Code n h = word_no_return (hex_byte n) (hex_back n h).0
argument_no_return Byte n h = word_no_return (hex_byte n) (hex_back n h).0
argument_no_return Channel n h = word_no_return (decimal n) (decimal_back n h).0
argument_no_return Level n h = word_no_return (decimal n) (decimal_back n h).0
argument_no_return End n h = refl

not-true : (b : Bool) → not b ≡ true → b ≡ false
not-true true h = absurd (false≢true h)
not-true false h = refl

all-text : (started : Bool) (line : List ℕ) → length line ≤ 1024 → each no_return line ≡ true → step_of started line ≡ step_in started line
unfolding step_of
all-text started line short ok =
    let last : eqb (get_or line (length line - 1) 0) 13 ≡ false = not-true _ (each_at no_return line (length line - 1) 0 ok refl) in
    ap (λ t. cond t (Malformed Shorter 0) (step_in started (take (text_end line) line))) (le-ltb 1024 (length line) short)
    ∙ ap (λ t. step_in started (take (cond t (length line - 1) (length line)) line)) last
    ∙ ap (step_in started) (take-length line)

-- a step whose name and numbers are read
step_read :
    (started : Bool) (n : Numbered) (step : Step)
    → each no_return (name_of n.kind) ≡ true
    → Taken (form_of n.kind).chip n.chip
    → Taken (form_of n.kind).channel n.channel
    → Taken (form_of n.kind).value n.value
    → step_in started (spelled n) ≡ read_by n.kind (form_of n.kind) (arguments (form_of n.kind) n)
    → step_from n.kind (Some n.chip) (Some n.channel) (Some n.value) true ≡ step
    → step_of started (spelled n) ≡ step
unfolding spelled
step_read started n step name one two three named is =
    let form : Form = form_of n.kind in
    let last : List ℕ = spelled_as form.value n.value ++ [] in
    let rest_plain : each no_return (arguments form n) ≡ true =
    each_append no_return (spelled_as form.chip n.chip) _ (argument_no_return form.chip n.chip one)
    (each_append no_return (spelled_as form.channel n.channel) last (argument_no_return form.channel n.channel two)
    (each_append no_return (spelled_as form.value n.value) [] (argument_no_return form.value n.value three) refl)) in
    all-text started (spelled n) (omega (arith, spelled_le n)) (each_append no_return (name_of n.kind) (arguments form n) name rest_plain)
    ∙ named
    ∙ form_read n.kind form n one two three
    ∙ is

event_back : (e : Event) → InBytes (in_numbers e) → step_of true (spelled (in_numbers e)) ≡ Happens e
unfolding spelled name_of step_in kind_of place_in line_end word_start word_end word behind read_as step_from
event_back (Command chip code) h = step_read true (in_numbers (Command chip code)) (Happens (Command chip code)) refl h.0 refl h.2 refl refl
event_back (Data chip byte) h = step_read true (in_numbers (Data chip byte)) (Happens (Data chip byte)) refl h.0 refl h.2 refl refl
event_back (Status chip) h = step_read true (in_numbers (Status chip)) (Happens (Status chip)) refl h.0 refl refl refl refl
event_back (Read chip) h = step_read true (in_numbers (Read chip)) (Happens (Read chip)) refl h.0 refl refl refl refl
event_back (Line chip channel level) h = step_read true (in_numbers (Line chip channel level)) (Happens (Line chip channel level)) refl h.0 h.1 h.2 refl refl
event_back (Enable level) h = step_read true (in_numbers (Enable level)) (Happens (Enable level)) refl refl refl h.2 refl refl
event_back Fall h = step_read true (in_numbers Fall) (Happens Fall) refl refl refl refl refl refl
event_back Rise h = step_read true (in_numbers Rise) (Happens Rise) refl refl refl refl refl refl

start_back : (count fill : ℕ) → count ≤ 255 → fill ≤ 255 → step_of false (spelled (numbered 0 count 0 fill)) ≡ Start count fill
unfolding spelled name_of step_in kind_of place_in line_end word_start word_end word behind read_as step_from
start_back count fill h g = step_read false (numbered 0 count 0 fill) (Start count fill) refl h refl g refl refl

pub one_spelling : OneSpelling
one_spelling = record { an_event = event_back; the_start = start_back }
