-- Of every number: computed over the lines of the table.
-- Assumes nothing.
use mathlib.Core.Bool.{Bool, true, false, cond, ◌&&◌}
use mathlib.Core.Path.{◌≡◌, refl, sym, ap, ◌∙◌}
use Prim.Native.Nat.{ℕ, ◌≤◌, ◌<◌}
use native.Mathlib.Omega.{arith}
use borrow.Author.Tests.{leb-true, lt-leb}
use lib.Dec.{leb}
use lib.ListN.{length}
use Rattle.bits.proofs.Below.{both_left, both_right, every_each}
use Rattle.text.specs.Tables.{line_in}
use Rattle.text.specs.Words.{line_end}
use Rattle.refusal.specs.EverySentence.{EverySentence}
use Rattle.refusal.specs.Sentences.{sentences, meaning_of}

-- some text, for which there is room
abbrev fits : ℕ → Bool
fits line = leb 1 (length (line_in line sentences)) && leb (length (line_in line sentences)) 160

line_lt : (number : ℕ) → cond (leb number 12) number 13 < 14
line_lt number = either (leb number 12) refl
  where
    either : (t : Bool) → leb number 12 ≡ t → cond t number 13 < 14
    either true is = omega (arith, leb-true number 12 is)
    either false is = omega arith

each_fits : (number : ℕ) → fits (cond (leb number 12) number 13) ≡ true
unfolding line_end
each_fits number = every_each 14 fits refl (cond (leb number 12) number 13) (line_lt number)

some : (number : ℕ) → 1 ≤ length (meaning_of number)
unfolding meaning_of
some number = leb-true 1 (length (meaning_of number)) (both_left (leb 1 (length (meaning_of number))) (leb (length (meaning_of number)) 160) (each_fits number))

room : (number : ℕ) → length (meaning_of number) ≤ 160
unfolding meaning_of
room number = leb-true (length (meaning_of number)) 160 (both_right (leb 1 (length (meaning_of number))) (leb (length (meaning_of number)) 160) (each_fits number))

last : (number : ℕ) → 12 < number → meaning_of number ≡ line_in 13 sentences
unfolding meaning_of
last number h = ap (λ t. line_in (cond t number 13) sentences) (lt-leb number 12 h)

pub every_sentence : EverySentence
every_sentence = record { some_text = some; has_room = room; of_none = λ a b h g. last a h ∙ sym (last b g) }
