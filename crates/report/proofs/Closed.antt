-- The last line of a list.
-- Assumes nothing.
use Rattle.std.proofs.Common.{◌≡◌, ℕ, true, false, cond, [], ◌++◌, ap, ◌∙◌, append-nil}
use Rattle.messages.specs.Messages.{malformed_line}
use Rattle.report.specs.Report.{Reply, has_ended, ends, lacking, last_course, closed}
use Rattle.report.specs.declared.Course.TheVariants.{Over, Stopped}
use Rattle.steps.specs.declared.Expected.TheVariants.{TheStart}

-- it ends the report already,
pub over : (said : Reply) (line : ℕ) → has_ended said.course ≡ true → closed said line ≡ said
unfolding closed
over said line is = ap (λ t. cond t said (ends (last_course said.report.started) (said.print ++ lacking said.report.started line) said.report)) is

-- or the list has started and lacks nothing,
pub whole : (said : Reply) (line : ℕ) → has_ended said.course ≡ false → said.report.started ≡ true → closed said line ≡ ends Over said.print said.report
unfolding closed
whole said line is has =
    ap (λ t. cond t said (ends (last_course said.report.started) (said.print ++ lacking said.report.started line) said.report)) is
    ∙ ap (λ t. ends (last_course t) (said.print ++ lacking t line) said.report) has
    ∙ ap (λ print. ends Over print said.report) (append-nil said.print)

-- or it lacks its start
pub lacks : (said : Reply) (line : ℕ) → has_ended said.course ≡ false → said.report.started ≡ false → closed said line ≡ ends Stopped (said.print ++ malformed_line line TheStart []) said.report
unfolding closed
lacks said line is has =
    ap (λ t. cond t said (ends (last_course said.report.started) (said.print ++ lacking said.report.started line) said.report)) is
    ∙ ap (λ t. ends (last_course t) (said.print ++ lacking t line) said.report) has
