-- The same of the calls that make report pages: what a line says, what a page says of a state, and what a line prints, with every byte of the page that is lent.
-- How to read a field: `Outcomes`.
use Rattle.std.specs.Prelude.{Bool, List, ℕ}
use contract.Lifetimes.{Lfts}
use Rattle.std.specs.Borrow.{Bor, MutBor}
use Rattle.event.specs.declared.Numbered.{Numbered}
use Rattle.refusal.specs.Numbers.{Answer}
use Rattle.chain.specs.declared.Chain.{Chain}
use Rattle.text.specs.Written.{written}
use Rattle.steps.proofs.line.step_of.Reads as step_of_outcome
use Rattle.steps.specs.Lines.{step_of}
use Rattle.page.proofs.put_page.Reads as put-page
use Rattle.page.specs.Page.{page_of}
use Rattle.report.proofs.Report.new.Reads as report-new
use Rattle.report.proofs.Report.take.Reads as report-take
use Rattle.report.proofs.Report.take_last.Reads as report-take-last
use Rattle.report.specs.Report.{Reply, at_first, reply, last_reply}
use Rattle.report.specs.declared.Report.{Report}
use Rattle.report.specs.declared.Taken.{Taken}
use Rattle.outcomes.specs.Outcomes.{Only, Determined, Writes}

-- a lent page with what a reply prints written onto its start, and how many bytes that is
abbrev pub page_of_reply : Reply → List ℕ → List ℕ × ℕ
page_of_reply said page = written (page, 0) said.print

-- what a line hands back with such a reply
abbrev pub taken_of : Reply → List ℕ → Taken
taken_of said page = record { report = said.report; length = (page_of_reply said page).1; course = said.course }

-- a call that writes a text from a place on into a lent buffer: its outcome is the place behind it, and every byte of the buffer. (As `Writes`)
abbrev pub Puts : {L In : Type 0} → (L → In → Type 0) → (L → In → ℕ → In → Type 0) → L → (MutBor (List ℕ) → In) → MutBor (List ℕ) → ℕ → List ℕ → Type 0
Puts asked post lent args to at text = let w : List ℕ × ℕ = written (to.now, at) text in Writes asked post lent args to w.1 w.0

-- a call that hands back a part of what it was lent: its outcome is the bytes of that part, wherever they lie, so the promise is asked of the part with these
-- bytes in it. (As `Determined`)
abbrev pub Hands : {L In : Type 0} → (L → In → Type 0) → (L → In → Bor (List ℕ) → In → Type 0) → L → In → Bor (List ℕ) → List ℕ → Type 0
Hands asked post lent args part given = Only (asked lent args) (λ (bytes : List ℕ). post lent args (record part { now = bytes }) args) given

pub record OnePage : Type 0 where
  -- a report before its first line takes nothing
  pub new : Determined report-new.Asked report-new.Post tt tt at_first
  -- what a line says, of any lent bytes, started or not
  pub step : (lent : Lfts 1) (started : Bool) (line : Bor (List ℕ))
      → Determined step_of_outcome.Asked step_of_outcome.Post lent (started, (line, tt)) (step_of started line.now)
  -- the page of any line, step, answer and chain, written from any place on into a lent buffer of any length: the place behind it, and every byte of the buffer
  pub page : (lent : Lfts 1) (to : MutBor (List ℕ)) (at line : ℕ) (step : Numbered) (answer : Answer) (s : Chain)
      → Puts put-page.Asked put-page.Post lent (λ to. (to, (at, (line, (step, (answer, (s, tt))))))) to at (page_of line step answer s)
  -- a line, and the last one, of any report and any lent bytes, onto a lent page of any length: the report after it, what it printed, and how it goes on
  pub take : (lent : Lfts 2) (r : Report) (line : Bor (List ℕ)) (page : MutBor (List ℕ))
      → let said : Reply = reply line.now r in
      Writes report-take.Asked report-take.Post lent (λ page. (r, (line, (page, tt)))) page (taken_of said page.now) (page_of_reply said page.now).0
  pub take_last : (lent : Lfts 2) (r : Report) (line : Bor (List ℕ)) (page : MutBor (List ℕ))
      → let said : Reply = last_reply line.now r in
      Writes report-take-last.Asked report-take-last.Post lent (λ page. (r, (line, (page, tt)))) page (taken_of said page.now) (page_of_reply said page.now).0
