-- No two outcomes satisfy a promise: each promise is that the outcome is what the definition gives.
-- Assumes nothing.
use mathlib.Core.Bool.{Bool}
use mathlib.Core.List.{List, [], ◌∷◌}
use Prim.Native.Nat.{ℕ, ◌≤◌}
use lib.ListN.{length, length-drop}
use Rattle.std.proofs.Common.{rules, arith}
use Rattle.text.specs.Words.{lead, line_end, word_start, word_end}
use Rattle.outcomes.specs.Outcomes.{OneOutcome}
use Rattle.outcomes.specs.PageParts.{OnePagePart}
use Rattle.outcomes.specs.Pages.{OnePage}
use Rattle.outcomes.specs.Parts.{OnePart}

pub one_outcome : OneOutcome
one_outcome = search rules

pub one_part : OnePart
one_part = search rules

pub one_page : OnePage
one_page = search rules

-- what stands at the start of a text is no longer than it
lead_le : (passes : ℕ → Bool) (l : List ℕ) → lead passes l ≤ length l
lead_le passes [] = omega arith
lead_le passes (c ∷ cs) = grind (arith, lead_le passes cs)

pub one_page_part : OnePagePart
unfolding line_end word_start word_end
one_page_part = search (rules, lead_le, length-drop)
