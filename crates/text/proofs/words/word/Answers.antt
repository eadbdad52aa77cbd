-- `text::words::word` meets its contract.
use Rattle.std.proofs.Common.{◌≡◌, ◌-◌, drop, take, length, ◌∙◌, ap, rules, ℕ, List}
use Rattle.std.proofs.lemmas.Slice.{between_to_end}
use Rattle.text.specs.Words.{word_end}
use Rattle.text.proofs.WordPlaces.{word_is}
use Rattle.text.proofs.words.word.Goals as goal

pub returns : goal.returns
returns c =
    let line : List ℕ = c.args.line.now in
    let at : ℕ = c.word_start.result in
    let rest : take (length line - at) (drop at line) ≡ drop at line = search (rules, between_to_end) in
    ap (take c.word_end.result) rest
    ∙ ap (λ (n : ℕ). take n (drop at line)) (c.word_end.ensures.value ∙ ap word_end rest)
    ∙ ap (λ (n : ℕ). take (word_end (drop n line)) (drop n line)) c.word_start.ensures.value
    ∙ word_is line
