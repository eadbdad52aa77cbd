-- A report of an event list: what each line prints, and what the whole list does.
use Rattle.std.specs.Prelude.{Ok, Err, ◌≡◌, ℕ, ◌+◌, ◌%◌, ◌^◌, Bool, true, false, cond, List, [], ◌∷◌, ◌++◌, ◌==◌}
use Rattle.chain.specs.Events.{event_of}
use Rattle.chain.specs.Fields.{zero_chain}
use Rattle.chain.specs.Start.{start_of}
use Rattle.refusal.specs.Answers.{verdict_in}
use Rattle.refusal.specs.Numbers.{Answer, Verdict}
use Rattle.chain.specs.declared.Chain.{Chain}
use Rattle.event.specs.Numbers.{numbered, in_numbers}
use Rattle.event.specs.declared.Numbered.{Numbered}
use Rattle.messages.specs.Messages.{malformed_line, refused_line}
use Rattle.page.specs.Page.{page_of}
use Rattle.report.specs.declared.Course.{Course}
use Rattle.report.specs.declared.Course.TheVariants.{GoesOn, Over, Stopped}
use Rattle.report.specs.declared.Report.{Report}
use Rattle.report.specs.declared.Taken.{Taken}
use Rattle.steps.specs.Lines.{step_of, found_in}
use Rattle.steps.specs.declared.Expected.TheVariants.{TheStart}
use Rattle.steps.specs.declared.Step.{Step}
use Rattle.steps.specs.declared.Step.TheVariants.{Nothing, Start, Happens, Malformed}
use Rattle.text.specs.Written.{written}

-- before the first line, nothing has started
unfoldable pub at_first : Report
at_first = record { line = 1; started = false; chain = zero_chain }

-- after a line; its number is counted in sixty-four bits
abbrev pub next_report : Bool → Chain → Report → Report
next_report started chain r = record { line = (r.line + 1) % 2 ^ 64; started = started; chain = chain }

-- What a line does: what it prints, the report after it, and how it goes on: it does, or the list is over, or it has stopped before the list's end.
pub record Reply : Type 0 where
  pub print : List ℕ
  pub report : Report
  pub course : Course

abbrev pub has_ended : Course → Bool
has_ended GoesOn = false
has_ended Over = true
has_ended Stopped = true

-- what a line hands back, and the page after it, tell a reply
abbrev pub Tells : Reply → List ℕ → Taken → List ℕ → Type 0
Tells said page taken after =
    (taken.report ≡ said.report)
    × ((taken.course ≡ said.course) × (◌≡◌ {A = List ℕ × ℕ} (after, taken.length) (written (page, 0) said.print)))

-- it goes on with a chain
abbrev pub goes_on : List ℕ → Bool → Chain → Report → Reply
goes_on print started chain r = record { print = print; report = next_report started chain r; course = GoesOn }

-- or ends there
abbrev pub ends : Course → List ℕ → Report → Reply
ends course print r = record { print = print; report = r; course = course }

-- an accepted step prints its page, a refused one its refusal
abbrev pub by_verdict : Verdict → Numbered → Answer → Chain → Report → Reply
by_verdict (Ok tt) step answer s r = goes_on (page_of r.line step answer s) true s r
by_verdict (Err why) step answer s r = ends Stopped (refused_line r.line step why) r

unfoldable pub step_reply : Numbered → Answer → Chain → Report → Reply
step_reply step answer s r = by_verdict (verdict_in answer) step answer s r

-- a malformed line, what was expected and the word that stands there
unfoldable pub line_reply : Step → List ℕ → Report → Reply
line_reply Nothing line r = goes_on [] r.started r.chain r
line_reply (Start count fill) line r = step_reply (numbered 0 count 0 fill) (start_of count fill).answer (start_of count fill).chain r
line_reply (Happens e) line r = step_reply (in_numbers e) (event_of e r.chain).answer (event_of e r.chain).chain r
line_reply (Malformed expected place) line r = ends Stopped (malformed_line r.line expected (found_in place line)) r

-- what a line does, without its line feed
unfoldable pub reply : List ℕ → Report → Reply
reply line r = line_reply (step_of r.started line) line r

-- the last line of a list, after which it is over; a list that has not started by then lacks its start
abbrev pub lacking : Bool → ℕ → List ℕ
lacking true line = []
lacking false line = malformed_line line TheStart []

abbrev pub last_course : Bool → Course
last_course true = Over
last_course false = Stopped

unfoldable pub closed : Reply → ℕ → Reply
closed said line =
    cond (has_ended said.course) said
    (ends (last_course said.report.started) (said.print ++ lacking said.report.started line) said.report)

unfoldable pub last_reply : List ℕ → Report → Reply
last_reply line r = closed (reply line r) r.line

-- the lines of a text are parted by line feeds (10); the last one ends with the text
abbrev pub before : ℕ → List (List ℕ) → List (List ℕ)
before c [] = (c ∷ []) ∷ []
before c (line ∷ lines) = (c ∷ line) ∷ lines

abbrev pub lines_of : List ℕ → List (List ℕ)
lines_of [] = [] ∷ []
lines_of (c ∷ cs) = cond (c == 10) ([] ∷ lines_of cs) (before c (lines_of cs))

-- what lines print, from a report on: each in its turn, up to the first that ends the report
abbrev pub printed : Report → List (List ℕ) → List ℕ
printed r [] = []
printed r (line ∷ []) = (last_reply line r).print
printed r (line ∷ next ∷ lines) = (reply line r).print ++ cond (has_ended (reply line r).course) [] (printed (reply line r).report (next ∷ lines))

-- what a whole list prints
unfoldable pub pages_of : List ℕ → List ℕ
pages_of list = printed at_first (lines_of list)
