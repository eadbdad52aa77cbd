-- What is written is the line of the number.
use Rattle.std.proofs.Common.{ap, ◌∙◌, ℕ}
use Rattle.text.specs.Tables.{line_in}
use Rattle.text.specs.Written.{written}
use Rattle.refusal.specs.Sentences.{sentences, meaning_of}
use Rattle.refusal.proofs.sentences.put_meaning.Goals as goal

pub returns : goal.returns
unfolding meaning_of
returns c = c.put_line.ensures ∙ ap (λ (k : ℕ). written (c.args.to.now, c.args.at) (line_in k sentences)) c.line_of.ensures
