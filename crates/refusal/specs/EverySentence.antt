-- Of every number: its sentence is some text, and 160 bytes are room for it; and what is no number has one sentence.
use Rattle.std.specs.Prelude.{◌≡◌, ℕ, ◌≤◌, ◌<◌, length}
use Rattle.refusal.specs.Sentences.{meaning_of}

pub record EverySentence : Type 0 where
  pub some_text : (number : ℕ) → 1 ≤ length (meaning_of number)
  pub has_room : (number : ℕ) → length (meaning_of number) ≤ 160
  pub of_none : (a b : ℕ) → 12 < a → 12 < b → meaning_of a ≡ meaning_of b
