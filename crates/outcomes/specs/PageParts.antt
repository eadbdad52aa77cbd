-- The same of the parts of which the calls that make report pages are made: every function that another crate can see and that is no such call itself.
-- How to read a field: `Outcomes`.
use Rattle.std.specs.Prelude.{List, ◌++◌, ℕ, length, take}
use contract.Lifetimes.{Lfts}
use Rattle.std.specs.Borrow.{Bor, MutBor}
use Rattle.event.specs.declared.Numbered.{Numbered}
use Rattle.refusal.proofs.sentences.meaning_length.Reads as meaning_length
use Rattle.refusal.proofs.sentences.put_meaning.Reads as put_meaning
use Rattle.refusal.specs.Sentences.{meaning_of}
use Rattle.refusal.specs.declared.Refusal.{Refusal}
use Rattle.text.proofs.cast.put_cast.Reads as put_cast
use Rattle.text.proofs.numbers.decimal_in.Reads as decimal_in_outcome
use Rattle.text.proofs.numbers.hex_in.Reads as hex_in_outcome
use Rattle.text.proofs.put.put.Reads as put
use Rattle.text.proofs.put.put_byte_field.Reads as put_byte_field
use Rattle.text.proofs.put.put_field.Reads as put_field
use Rattle.text.proofs.tables.line_in.Reads as line_in_outcome
use Rattle.text.proofs.tables.place_in.Reads as place_in_outcome
use Rattle.text.proofs.tables.put_line.Reads as put_line
use Rattle.text.proofs.words.begins.Reads as begins
use Rattle.text.proofs.words.first.Reads as first
use Rattle.text.proofs.words.line_end.Reads as line_end_outcome
use Rattle.text.proofs.words.word_at.Reads as word_at_outcome
use Rattle.text.proofs.words.word_end.Reads as word_end_outcome
use Rattle.text.proofs.words.word_start.Reads as word_start_outcome
use Rattle.text.specs.Cast.{cast}
use Rattle.text.specs.Tables.{line_in, place_in}
use Rattle.text.specs.Words.{begins as Words·begins, decimal_in, hex_in, line_end, word_at, word_start, word_end}
use Rattle.text.specs.Written.{decimal, hex_byte}
use Rattle.text.specs.declared.Way.{Way}
use Rattle.steps.proofs.Argument.number.Reads as argument_number_outcome
use Rattle.steps.proofs.kinds.form_of.Reads as form_of_outcome
use Rattle.steps.proofs.kinds.in_capitals.Reads as in_capitals_outcome
use Rattle.steps.proofs.kinds.put_name.Reads as put_name
use Rattle.steps.proofs.line.found_in.Reads as found_in_outcome
use Rattle.steps.proofs.spelled.put_step.Reads as put_step
use Rattle.steps.specs.Kinds.{argument_number, form_of, in_capitals, name_of}
use Rattle.steps.specs.Lines.{found_in}
use Rattle.steps.specs.Spelled.{spelled}
use Rattle.steps.specs.declared.Argument.{Argument}
use Rattle.steps.specs.declared.Expected.{Expected}
use Rattle.messages.proofs.put_malformed.Reads as put_malformed
use Rattle.messages.proofs.put_refused.Reads as put_refused
use Rattle.messages.specs.Messages.{malformed_line, refused_line}
use Rattle.report.proofs.Course.has_ended.Reads as has_ended_outcome
use Rattle.report.specs.Report.{has_ended}
use Rattle.report.specs.declared.Course.{Course}
use Rattle.outcomes.specs.Outcomes.{Determined}
use Rattle.outcomes.specs.Pages.{Puts, Hands}

pub record OnePagePart : Type 0 where
  -- text: words and numbers in any lent bytes
  pub line_end_outcome : (lent : Lfts 1) (text : Bor (List ℕ)) → Determined line_end_outcome.Asked line_end_outcome.Post lent (text, tt) (line_end text.now)
  pub word_start_outcome : (lent : Lfts 1) (line : Bor (List ℕ)) → Determined word_start_outcome.Asked word_start_outcome.Post lent (line, tt) (word_start line.now)
  pub word_end_outcome : (lent : Lfts 1) (line : Bor (List ℕ)) → Determined word_end_outcome.Asked word_end_outcome.Post lent (line, tt) (word_end line.now)
  pub decimal_in_outcome : (lent : Lfts 1) (word : Bor (List ℕ)) → Determined decimal_in_outcome.Asked decimal_in_outcome.Post lent (word, tt) (decimal_in word.now)
  pub hex_in_outcome : (lent : Lfts 1) (word : Bor (List ℕ)) → Determined hex_in_outcome.Asked hex_in_outcome.Post lent (word, tt) (hex_in word.now)
  pub begins : (lent : Lfts 2) (beginning text : Bor (List ℕ)) → Determined begins.Asked begins.Post lent (beginning, (text, tt)) (Words·begins beginning.now text.now)
  pub first : (lent : Lfts 1) (text : Bor (List ℕ)) (most : ℕ) (part : Bor (List ℕ)) → Hands first.Asked first.Post lent (text, (most, tt)) part (take most text.now)
  pub word_at_outcome : (lent : Lfts 1) (line : Bor (List ℕ)) (k : ℕ) (part : Bor (List ℕ)) → Hands word_at_outcome.Asked word_at_outcome.Post lent (line, (k, tt)) part (word_at k line.now)
  pub line_in_outcome : (lent : Lfts 1) (text : Bor (List ℕ)) (k : ℕ) (part : Bor (List ℕ)) → Hands line_in_outcome.Asked line_in_outcome.Post lent (text, (k, tt)) part (line_in k text.now)
  pub place_in_outcome : (lent : Lfts 2) (table : Bor (List ℕ)) (lines : ℕ) (word : Bor (List ℕ))
      → Determined place_in_outcome.Asked place_in_outcome.Post lent (table, (lines, (word, tt))) (place_in table.now lines word.now)
  -- and texts written from any place on into a lent buffer of any length: the place behind them, and every byte of the buffer
  pub put : (lent : Lfts 2) (to : MutBor (List ℕ)) (at : ℕ) (from : Bor (List ℕ))
      → Puts put.Asked put.Post lent (λ to. (to, (at, (from, tt)))) to at from.now
  pub put_field : (lent : Lfts 2) (to : MutBor (List ℕ)) (at : ℕ) (name : Bor (List ℕ)) (n : ℕ)
      → Puts put_field.Asked put_field.Post lent (λ to. (to, (at, (name, (n, tt))))) to at (name.now ++ decimal n)
  pub put_byte_field : (lent : Lfts 2) (to : MutBor (List ℕ)) (at : ℕ) (name : Bor (List ℕ)) (byte : ℕ)
      → Puts put_byte_field.Asked put_byte_field.Post lent (λ to. (to, (at, (name, (byte, tt))))) to at (name.now ++ hex_byte byte)
  pub put_line : (lent : Lfts 2) (to : MutBor (List ℕ)) (at : ℕ) (text : Bor (List ℕ)) (k : ℕ)
      → Puts put_line.Asked put_line.Post lent (λ to. (to, (at, (text, (k, tt))))) to at (line_in k text.now)
  pub put_cast : (lent : Lfts 2) (to : MutBor (List ℕ)) (at : ℕ) (from : Bor (List ℕ)) (how : Way)
      → Puts put_cast.Asked put_cast.Post lent (λ to. (to, (at, (from, (how, tt))))) to at (cast how from.now)
  -- refusal: the sentence of any number, and how long it is
  pub put_meaning : (lent : Lfts 1) (to : MutBor (List ℕ)) (at number : ℕ)
      → Puts put_meaning.Asked put_meaning.Post lent (λ to. (to, (at, (number, tt)))) to at (meaning_of number)
  pub meaning_length : (number : ℕ) → Determined meaning_length.Asked meaning_length.Post tt (number, tt) (length (meaning_of number))
  -- steps: any step in its spelling, its name, its form, and the number of an argument; of any lent bytes whether they are a name in capitals, and the word at a place
  pub put_step : (lent : Lfts 1) (to : MutBor (List ℕ)) (at : ℕ) (step : Numbered)
      → Puts put_step.Asked put_step.Post lent (λ to. (to, (at, (step, tt)))) to at (spelled step)
  pub in_capitals_outcome : (lent : Lfts 1) (word : Bor (List ℕ)) → Determined in_capitals_outcome.Asked in_capitals_outcome.Post lent (word, tt) (in_capitals word.now)
  pub found_in_outcome : (lent : Lfts 1) (line : Bor (List ℕ)) (place : ℕ) (part : Bor (List ℕ))
      → Hands found_in_outcome.Asked found_in_outcome.Post lent (line, (place, tt)) part (found_in place line.now)
  pub put_name : (lent : Lfts 1) (to : MutBor (List ℕ)) (at kind : ℕ)
      → Puts put_name.Asked put_name.Post lent (λ to. (to, (at, (kind, tt)))) to at (name_of kind)
  pub form_of_outcome : (kind : ℕ) → Determined form_of_outcome.Asked form_of_outcome.Post tt (kind, tt) (form_of kind)
  pub argument_number_outcome : (a : Argument) → Determined argument_number_outcome.Asked argument_number_outcome.Post tt (a, tt) (argument_number a)
  -- messages: what is printed for any refusal and for any line that is not as expected
  pub put_refused : (lent : Lfts 1) (to : MutBor (List ℕ)) (at line : ℕ) (step : Numbered) (why : Refusal)
      → Puts put_refused.Asked put_refused.Post lent (λ to. (to, (at, (line, (step, (why, tt)))))) to at (refused_line line step why)
  pub put_malformed : (lent : Lfts 2) (to : MutBor (List ℕ)) (at line : ℕ) (expected : Expected) (found : Bor (List ℕ))
      → Puts put_malformed.Asked put_malformed.Post lent (λ to. (to, (at, (line, (expected, (found, tt)))))) to at (malformed_line line expected found.now)
  -- report: whether one goes on
  pub has_ended_outcome : (course : Course) → Determined has_ended_outcome.Asked has_ended_outcome.Post tt (course, tt) (has_ended course)
