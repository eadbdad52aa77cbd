-- How much a line may print.
-- Assumes nothing.
use Rattle.std.specs.Prelude.{Ok, Err}
use Rattle.std.proofs.Common.{ℕ, ◌≤◌, Bool, true, false, cond, List, [], ◌++◌, length, arith, length-append}
use Rattle.refusal.specs.Answers.{verdict_in}
use Rattle.refusal.specs.Numbers.{Answer, Verdict}
use Rattle.chain.specs.declared.Chain.{Chain}
use Rattle.messages.proofs.Bounds.{refused_le, malformed_le}
use Rattle.page.proofs.Bounds.{page_le}
use Rattle.event.specs.declared.Numbered.{Numbered}
use Rattle.report.specs.Report.{Reply, has_ended, ends, by_verdict, step_reply, line_reply, reply, lacking, last_course, closed, last_reply}
use Rattle.report.specs.declared.Report.{Report}
use Rattle.steps.specs.Lines.{step_of, found_in}
use Rattle.steps.specs.declared.Expected.TheVariants.{TheStart}
use Rattle.steps.specs.declared.Step.{Step}
use Rattle.steps.specs.declared.Step.TheVariants.{Nothing, Start, Happens, Malformed}

by_le : (v : Verdict) (step : Numbered) (answer : Answer) (s : Chain) (r : Report) → length (by_verdict v step answer s r).print ≤ 10000
by_le (Ok tt) step answer s r = page_le r.line step answer s
by_le (Err why) step answer s r = omega (arith, refused_le r.line step why)

step_le : (step : Numbered) (answer : Answer) (s : Chain) (r : Report) → length (step_reply step answer s r).print ≤ 10000
unfolding step_reply
step_le step answer s r = by_le (verdict_in answer) step answer s r

replied_le : (step : Step) (line : List ℕ) (r : Report) → length (line_reply step line r).print ≤ 10000
unfolding line_reply
replied_le Nothing line r = omega arith
replied_le (Start count fill) line r = step_le _ _ _ r
replied_le (Happens e) line r = step_le _ _ _ r
replied_le (Malformed expected place) line r = omega (arith, malformed_le r.line expected (found_in place line))

pub reply_le : (line : List ℕ) (r : Report) → length (reply line r).print ≤ 10000
unfolding reply
reply_le line r = replied_le (step_of r.started line) line r

lacking_le : (started : Bool) (line : ℕ) → length (lacking started line) ≤ 1280
lacking_le true line = omega arith
lacking_le false line = malformed_le line TheStart []

closed_le : (said : Reply) (line : ℕ) → length said.print ≤ 10000 → length (closed said line).print ≤ 16384
unfolding closed
closed_le said line h = either (has_ended said.course)
  where
    either : (t : Bool) → length (cond t said (ends (last_course said.report.started) (said.print ++ lacking said.report.started line) said.report)).print ≤ 16384
    either true = omega (arith, h)
    either false = omega (arith, h, length-append said.print (lacking said.report.started line), lacking_le said.report.started line)

pub last_le : (line : List ℕ) (r : Report) → length (last_reply line r).print ≤ 16384
unfolding last_reply
last_le line r = closed_le (reply line r) r.line (reply_le line r)
