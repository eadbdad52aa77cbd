-- What every public call promises: an outcome for all that it can be given, and never two to choose from.
--
-- The promises are the contracts of the public calls themselves, as the prover reads them. Of a call,
--     Asked lent args               is what a caller has to show of the arguments,
--     Post lent args result after   is what the call has to show of its arguments, of its result, and of its arguments at the return.
-- Here `lent` are the lifetimes of what is lent to the call, `tt` where nothing is, and `args` are its arguments in their order, as a list that ends in `tt`:
-- (s, (chip, tt)) are the arguments s and chip. A buffer that is lent to be read is a `Bor`, one that is lent to be written a `MutBor`. At the return a value is as it
-- was passed, and so is what was lent to be read; a buffer that was lent to be written may hold something else, and `at_last buffer x` is that buffer with x in it.
-- That a call ends is part of being proved.
--
-- For example `command`, the call `s.command(chip, code)`. Nothing is lent to it, and its arguments are a chain and two numbers, whatever they are. The field
-- says three things. A caller may pass these: nothing is asked (`taken`). The outcome that the definitions give, `event_of (Command chip code) s`, is one that the
-- call's promise allows (`satisfied`). And two results that the promise allows are the same (`no_two`). So that outcome is what the call hands back.
use Rattle.std.specs.Prelude.{List, ◌≡◌, ℕ}
use contract.Lifetimes.{Lfts}
use Rattle.std.specs.Borrow.{Bor, MutBor}
use denote.Ref.{at_last}
use Rattle.search.specs.Candidate.{search_number}
use Rattle.refusal.proofs.answers.byte.Reads as answer_byte
use Rattle.refusal.proofs.answers.drove.Reads as answer_drove
use Rattle.refusal.proofs.answers.number.Reads as answer_number
use Rattle.refusal.proofs.answers.verdict_in.Reads as answer_verdict
use Rattle.refusal.proofs.Refusal.number.Reads as refusal_number_outcome
use Rattle.refusal.proofs.is_accepted.Reads as verdict_is_accepted
use Rattle.refusal.proofs.verdict_number.Reads as verdict_number_outcome
use Rattle.refusal.specs.Answers.{verdict_in, handed}
use Rattle.refusal.specs.Numbers.{refusal_number, verdict_number, is_accepted, Answer, Verdict}
use Rattle.refusal.specs.declared.Refusal.{Refusal}
use Rattle.event.specs.declared.Event.{Event}
use Rattle.event.specs.declared.Event.TheVariants.{Command, Data, Status, Read, Line, Enable, Fall, Rise}
use Rattle.chain.proofs.Chain.command.Reads as chain-command
use Rattle.chain.proofs.Chain.data.Reads as chain-data
use Rattle.chain.proofs.Chain.enable.Reads as chain-enable
use Rattle.chain.proofs.Chain.fall.Reads as chain-fall
use Rattle.chain.proofs.Chain.is_sound.Reads as chain-is-sound
use Rattle.chain.proofs.Chain.line.Reads as chain-line
use Rattle.chain.proofs.Chain.on.Reads as chain-on
use Rattle.chain.proofs.Chain.read.Reads as chain-read
use Rattle.chain.proofs.Chain.rise.Reads as chain-rise
use Rattle.chain.proofs.Chain.start.Reads as chain-start
use Rattle.chain.proofs.Chain.status.Reads as chain-status
use Rattle.chain.specs.Events.{event_of}
use Rattle.chain.specs.Sound.{sound}
use Rattle.chain.specs.Start.{start_of}
use Rattle.chain.specs.declared.Chain.{Chain}
use Rattle.views.proofs.pin_view.Reads as pin_view_outcome
use Rattle.views.proofs.register_view.Reads as register_view_outcome
use Rattle.views.specs.Views.{register_view, pin_view}
use Rattle.run.proofs.run.Reads as run-run
use Rattle.run.specs.Run.{Report, run_of}
use Rattle.am9519a.proofs.am9519a_candidate.Reads as am9519a-candidate
use Rattle.am9519a.proofs.am9519a_meaning.Reads as am9519a-meaning
use Rattle.am9519a.proofs.am9519a_pins.Reads as am9519a-pins
use Rattle.am9519a.proofs.am9519a_registers.Reads as am9519a-registers
use Rattle.am9519a.proofs.am9519a_run.Reads as am9519a-run
use Rattle.am9519a.proofs.am9519a_start.Reads as am9519a-start
use Rattle.am9519a.specs.Calls.{Called, RunCalled, start_call, run_call, registers_call, pins_call, meaning_call}

-- arguments that a call takes, a promise that the given outcome satisfies and no two do
pub record Only {A : Type 0} (asked : Type 0) (promise : A → Type 0) (given : A) : Type 0 where
  pub taken : asked
  pub satisfied : promise given
  pub no_two : (x y : A) → promise x → promise y → x ≡ y

-- a call that writes to nothing lent: its outcome is its result, and that is what the definition gives
abbrev pub Determined : {L In A : Type 0} → (L → In → Type 0) → (L → In → A → In → Type 0) → L → In → A → Type 0
Determined asked post lent args given = Only (asked lent args) (λ r. post lent args r args) given

-- a call that writes to one lent buffer: its outcome is its result and what it leaves in the buffer, and both are what the definitions give. Its arguments are told
-- by the buffer, which stands among them
abbrev pub Writes : {A B L In : Type 0} → (L → In → Type 0) → (L → In → A → In → Type 0) → L → (MutBor B → In) → MutBor B → A → B → Type 0
Writes {A} {B} asked post lent args buffer result left =
    Only (asked lent (args buffer)) (λ (o : A × B). post lent (args buffer) o.0 (args (at_last buffer o.1))) (result, left)

pub record OneOutcome : Type 0 where
  -- a start takes any two numbers
  pub start : (count fill : ℕ) → Determined chain-start.Asked chain-start.Post tt (count, (fill, tt)) (start_of count fill)
  -- each of the eight events takes any chain and any numbers, and so does the call that takes whichever event
  pub command : (s : Chain) (chip code : ℕ) → Determined chain-command.Asked chain-command.Post tt (s, (chip, (code, tt))) (event_of (Command chip code) s)
  pub data_write : (s : Chain) (chip byte : ℕ) → Determined chain-data.Asked chain-data.Post tt (s, (chip, (byte, tt))) (event_of (Data chip byte) s)
  pub status : (s : Chain) (chip : ℕ) → Determined chain-status.Asked chain-status.Post tt (s, (chip, tt)) (event_of (Status chip) s)
  pub read : (s : Chain) (chip : ℕ) → Determined chain-read.Asked chain-read.Post tt (s, (chip, tt)) (event_of (Read chip) s)
  pub line : (s : Chain) (chip channel level : ℕ)
      → Determined chain-line.Asked chain-line.Post tt (s, (chip, (channel, (level, tt)))) (event_of (Line chip channel level) s)
  pub enable : (s : Chain) (level : ℕ) → Determined chain-enable.Asked chain-enable.Post tt (s, (level, tt)) (event_of (Enable level) s)
  pub fall : (s : Chain) → Determined chain-fall.Asked chain-fall.Post tt (s, tt) (event_of Fall s)
  pub rise : (s : Chain) → Determined chain-rise.Asked chain-rise.Post tt (s, tt) (event_of Rise s)
  pub on : (s : Chain) (e : Event) → Determined chain-on.Asked chain-on.Post tt (s, (e, tt)) (event_of e s)
  -- the two views take any chain and any chip number, and the test whether a chain is sound takes any chain
  pub register_view_outcome : (s : Chain) (chip : ℕ) → Determined register_view_outcome.Asked register_view_outcome.Post tt (s, (chip, tt)) (register_view chip s)
  pub pin_view_outcome : (s : Chain) (chip : ℕ) → Determined pin_view_outcome.Asked pin_view_outcome.Post tt (s, (chip, tt)) (pin_view chip s)
  pub is_sound : (s : Chain) → Determined chain-is-sound.Asked chain-is-sound.Post tt (s, tt) (sound s)
  -- what any answer, verdict and refusal is in numbers
  pub answer_verdict : (a : Answer) → Determined answer_verdict.Asked answer_verdict.Post tt (a, tt) (verdict_in a)
  pub answer_number : (a : Answer) → Determined answer_number.Asked answer_number.Post tt (a, tt) (handed a).number
  pub answer_drove : (a : Answer) → Determined answer_drove.Asked answer_drove.Post tt (a, tt) (handed a).drove
  pub answer_byte : (a : Answer) → Determined answer_byte.Asked answer_byte.Post tt (a, tt) (handed a).byte
  pub verdict_number_outcome : (v : Verdict) → Determined verdict_number_outcome.Asked verdict_number_outcome.Post tt (v, tt) (verdict_number v)
  pub verdict_is_accepted : (v : Verdict) → Determined verdict_is_accepted.Asked verdict_is_accepted.Post tt (v, tt) (is_accepted v)
  pub refusal_number_outcome : (why : Refusal) → Determined refusal_number_outcome.Asked refusal_number_outcome.Post tt (why, tt) (refusal_number why)
  -- a run takes any chain, any limit and two lent buffers of any length: what it reports, the chain with it, and every byte of the results as it leaves them
  pub run : (lent : Lfts 2) (s : Chain) (bytes : Bor (List ℕ)) (limit : ℕ) (results : MutBor (List ℕ))
      → let r : Report = run_of s bytes.now limit results.now in
      Writes run-run.Asked run-run.Post lent (λ results. (s, (bytes, (limit, (results, tt))))) results r.ran r.results
  -- the search for a caller in C takes any five numbers
  pub candidate : (irr imr isr mode pointer : ℕ)
      → Determined am9519a-candidate.Asked am9519a-candidate.Post tt (irr, (imr, (isr, (mode, (pointer, tt))))) (search_number irr imr isr mode pointer)
  -- the calls from C over an image of a chain take lent buffers of any length with any bytes: the number, and every byte of the buffer that is lent to be written
  pub start_call_outcome : (lent : Lfts 1) (count fill : ℕ) (image : MutBor (List ℕ))
      → let c : Called = start_call count fill image.now in
      Writes am9519a-start.Asked am9519a-start.Post lent (λ image. (count, (fill, (image, tt)))) image c.number c.buffer
  pub registers_call_outcome : (lent : Lfts 2) (image : Bor (List ℕ)) (chip : ℕ) (view : MutBor (List ℕ))
      → let c : Called = registers_call image.now chip view.now in
      Writes am9519a-registers.Asked am9519a-registers.Post lent (λ view. (image, (chip, (view, tt)))) view c.number c.buffer
  pub pins_call_outcome : (lent : Lfts 2) (image : Bor (List ℕ)) (chip : ℕ) (view : MutBor (List ℕ))
      → let c : Called = pins_call image.now chip view.now in
      Writes am9519a-pins.Asked am9519a-pins.Post lent (λ view. (image, (chip, (view, tt)))) view c.number c.buffer
  -- the sentence of any number takes a lent buffer likewise: how long it is, and every byte of the buffer
  pub meaning_call_outcome : (lent : Lfts 1) (number : ℕ) (text : MutBor (List ℕ))
      → let c : Called = meaning_call number text.now in
      Writes am9519a-meaning.Asked am9519a-meaning.Post lent (λ text. (number, (text, tt))) text c.number c.buffer
  -- of a run from C the number, every byte of the image and of the results, and the accepted count: an outcome is all four
  pub run_call_outcome : (lent : Lfts 4) (image : MutBor (List ℕ)) (events : Bor (List ℕ)) (limit : ℕ) (results : MutBor (List ℕ)) (accepted : MutBor ℕ)
      → Only (am9519a-run.Asked lent (image, (events, (limit, (results, (accepted, tt))))))
      (λ (c : RunCalled). am9519a-run.Post lent (image, (events, (limit, (results, (accepted, tt))))) c.number
      (at_last image c.image, (events, (limit, (at_last results c.results, (at_last accepted c.accepted, tt))))))
      (run_call image.now events.now limit results.now accepted.now)
