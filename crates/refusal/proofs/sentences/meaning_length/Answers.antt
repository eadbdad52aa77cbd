-- The line of the number is what `line_in` hands back.
use Rattle.std.proofs.Common.{ap, ◌∙◌, ℕ, length}
use Rattle.text.specs.Tables.{line_in}
use Rattle.refusal.specs.Sentences.{sentences, meaning_of}
use Rattle.refusal.proofs.sentences.meaning_length.Goals as goal

pub returns : goal.returns
unfolding meaning_of
returns c = ap length c.line_in.ensures ∙ ap (λ (k : ℕ). length (line_in k sentences)) c.line_of.ensures
