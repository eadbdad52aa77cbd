-- What holds of every list.
-- Assumes nothing.
use Rattle.std.proofs.Common.{◌≡◌, ℕ, suc, ◌<◌, ◌≤◌, Bool, true, false, cond, not, eqb, List, [], ◌∷◌, ◌++◌, length, get_or, take, drop, sym, refl, ap, ◌∙◌, arith, length-take-le, take-take, lt-ltb}
use Rattle.report.specs.Report.{before, lines_of, printed, has_ended, ends, reply, line_reply, last_reply}
use Rattle.messages.specs.Messages.{malformed_line}
use Rattle.report.specs.EveryList.{OnThePage, EveryList}
use Rattle.report.specs.declared.Course.TheVariants.{Stopped}
use Rattle.report.specs.declared.Report.{Report}
use Rattle.report.proofs.Bounds.{reply_le, last_le}
use Rattle.steps.specs.Lines.{step_of, found_in}
use Rattle.steps.specs.declared.Expected.TheVariants.{Shorter}
use Rattle.steps.specs.declared.Step.TheVariants.{Malformed}
use Rattle.text.proofs.Fits.{fits}
use Rattle.text.specs.Words.{is_inside, lead, line_end, word}

-- a text of at most 16,384 bytes is on the page
on_it : (print : List ℕ) → length print ≤ 16384 → OnThePage print
on_it print h = record { all_there = λ page is. fits.whole page print (omega (arith, h, is)) }

-- a line without a line feed: none of its bytes is one
inner : (c : ℕ) (cs : List ℕ) → lead is_inside (c ∷ cs) ≡ length (c ∷ cs) → (eqb c 10 ≡ false) × (lead is_inside cs ≡ length cs)
inner c cs is = either (eqb c 10) refl
  where
    either : (t : Bool) → eqb c 10 ≡ t → (eqb c 10 ≡ false) × (lead is_inside cs ≡ length cs)
    either true at =
        let none : 0 ≡ suc (length cs) = sym (ap (λ t. cond (not t) (suc (lead is_inside cs)) 0) at) ∙ is in
        absurd (omega (arith, none))
    either false at =
        let more : suc (lead is_inside cs) ≡ suc (length cs) = sym (ap (λ t. cond (not t) (suc (lead is_inside cs)) 0) at) ∙ is in
        (at, omega (arith, more))

-- it is the first line of a text that has a line feed behind it,
first_line : (line rest : List ℕ) → lead is_inside line ≡ length line → lines_of (line ++ (10 ∷ rest)) ≡ line ∷ lines_of rest
first_line [] rest is = refl
first_line (c ∷ cs) rest is =
    let both : (eqb c 10 ≡ false) × (lead is_inside cs ≡ length cs) = inner c cs is in
    ap (λ t. cond t ([] ∷ lines_of (cs ++ (10 ∷ rest))) (before c (lines_of (cs ++ (10 ∷ rest))))) both.0
    ∙ ap (before c) (first_line cs rest both.1)

-- and the only one of a text that has none
only_line : (line : List ℕ) → lead is_inside line ≡ length line → lines_of line ≡ line ∷ []
only_line [] is = refl
only_line (c ∷ cs) is =
    let both : (eqb c 10 ≡ false) × (lead is_inside cs ≡ length cs) = inner c cs is in
    ap (λ t. cond t ([] ∷ lines_of cs) (before c (lines_of cs))) both.0 ∙ ap (before c) (only_line cs both.1)

-- a text has a first line
has_a_line : (list : List ℕ) → lines_of list ≡ get_or (lines_of list) 0 [] ∷ drop 1 (lines_of list)
has_a_line [] = refl
has_a_line (c ∷ cs) = either (eqb c 10) (lines_of cs)
  where
    either :
        (t : Bool) (lines : List (List ℕ))
        → cond t ([] ∷ lines) (before c lines) ≡ get_or (cond t ([] ∷ lines) (before c lines)) 0 [] ∷ drop 1 (cond t ([] ∷ lines) (before c lines))
    either true lines = refl
    either false [] = refl
    either false (line ∷ lines) = refl

line_by_line :
    (line rest : List ℕ) (r : Report)
    → line_end line ≡ length line
    → printed r (lines_of (line ++ (10 ∷ rest))) ≡ (reply line r).print ++ cond (has_ended (reply line r).course) [] (printed (reply line r).report (lines_of rest))
unfolding line_end
line_by_line line rest r is =
    ap (printed r) (first_line line rest is ∙ ap (λ lines. line ∷ lines) (has_a_line rest))
    ∙ ap (λ lines. (reply line r).print ++ cond (has_ended (reply line r).course) [] (printed (reply line r).report lines)) (sym (has_a_line rest))

the_last_line : (line : List ℕ) (r : Report) → line_end line ≡ length line → printed r (lines_of line) ≡ (last_reply line r).print
unfolding line_end
the_last_line line r is = ap (printed r) (only_line line is)

-- a line that is too long
shorter : (started : Bool) (line : List ℕ) → 1024 < length line → step_of started line ≡ Malformed Shorter 0
unfolding step_of
shorter started line h = simp (lt-ltb 1024 (length line) h)

-- of which the first 1,024 bytes are looked at
found_there : (line : List ℕ) → 1024 < length line → found_in 0 line ≡ word (take 1024 line)
unfolding found_in
found_there line h = simp (lt-ltb 1024 (length line) h)

too_long : (line : List ℕ) (n : ℕ) (r : Report) → 1024 < n → n ≤ length line → reply (take n line) r ≡ reply line r
unfolding reply line_reply
too_long line n r long has =
    let front : 1024 < length (take n line) = omega (arith, length-take-le n line has, long) in
    let whole : 1024 < length line = omega (arith, long, has) in
    let found : found_in 0 (take n line) ≡ found_in 0 line =
    found_there (take n line) front ∙ ap word (take-take 1024 n line (omega (arith, long))) ∙ sym (found_there line whole) in
    ap (λ step. line_reply step (take n line) r) (shorter r.started (take n line) front)
    ∙ ap (λ l. ends Stopped (malformed_line r.line Shorter l) r) found
    ∙ sym (ap (λ step. line_reply step line r) (shorter r.started line whole))

pub every_list : EveryList
every_list =
    record {
      on_the_page = λ line r. on_it (reply line r).print (omega (arith, reply_le line r));
      last_on_the_page = λ line r. on_it (last_reply line r).print (last_le line r);
      line_by_line = line_by_line;
      the_last_line = the_last_line;
      too_long = too_long;
    }
