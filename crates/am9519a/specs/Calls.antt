-- The C calls over a chain image, and that for the sentence of a number: the number that each hands back, and what the lent buffers hold afterwards.
-- A call is the model's call between reading the image and writing it. A refused call leaves every buffer as it was.
use Rattle.std.specs.Prelude.{Ok, Err, cond, List, [], ◌∷◌, ℕ, ◌/◌, ◌%◌, eqb, ltb, length}
use Rattle.refusal.specs.Answers.{verdict_in}
use Rattle.refusal.specs.Numbers.{verdict_number, is_accepted}
use Rattle.refusal.specs.Sentences.{meaning_of}
use Rattle.refusal.specs.declared.Refusal.TheVariants.{NotSound, ShortResults}
use Rattle.refusal.specs.Numbers.{Verdict}
use Rattle.chain.specs.Fields.{zero_chain}
use Rattle.chain.specs.Start.{start_of}
use Rattle.chain.specs.declared.Chain.{Chain}
use Rattle.views.specs.Views.{register_view, pin_view}
use Rattle.views.specs.declared.PinView.{PinView}
use Rattle.views.specs.declared.Pins.{Pins}
use Rattle.views.specs.declared.RegisterView.{RegisterView}
use Rattle.views.specs.declared.Registers.{Registers}
use Rattle.run.specs.Run.{Report, before_any, run_of}
use Rattle.image.specs.Layout.{image_of, over}
use Rattle.image.specs.Reading.{chain_in, is_image}
use Rattle.text.specs.Written.{written}

-- the chain in an image; what is no image, of another length than 528 or not of the form, is refused as a chain that is not sound
abbrev pub chain_of : List ℕ → Chain
chain_of image = cond (is_image image) (chain_in image) zero_chain

-- a call that hands back a number and leaves a buffer
pub record Called : Type 0 where
  pub number : ℕ
  pub buffer : List ℕ

-- what a call with this verdict hands back: a refused one leaves the buffer
unfoldable pub called : Verdict → List ℕ → List ℕ → Called
called verdict old new = record { number = verdict_number verdict; buffer = cond (is_accepted verdict) new old }

-- start: 1 where the image is not 528 bytes long; then the start's own verdict, and the image gets its chain
unfoldable pub start_call : ℕ → ℕ → List ℕ → Called
start_call count fill image =
    called
    (cond (eqb (length image) 528) (verdict_in (start_of count fill).answer) (Err NotSound))
    image
    (image_of (start_of count fill).chain)

-- a register view's nine bytes
abbrev pub table_bytes : Registers → List ℕ
table_bytes r =
    r.event % 256 ∷ r.event / 256 ∷ r.irr ∷ r.isr ∷ r.imr ∷ r.acr ∷ r.mode ∷ r.status ∷ r.waiting ∷ []

-- a pin view's eight bytes
abbrev pub picture_bytes : Pins → List ℕ
picture_bytes p =
    p.event % 256 ∷ p.event / 256 ∷ p.ei ∷ p.eo ∷ p.gint ∷ p.rip ∷ p.pause ∷ p.iack ∷ []

-- what a view leaves: its own refusals, then 11: a lent buffer under so many bytes as it has; accepted, it writes them over the first ones
unfoldable pub viewed : Verdict → List ℕ → List ℕ → Called
viewed verdict bytes view =
    called
    (cond (is_accepted verdict) (cond (ltb (length view) (length bytes)) (Err ShortResults) (Ok tt)) verdict)
    view
    (over view 0 bytes)

-- registers: the view's first nine bytes get the table of the chip
unfoldable pub registers_call : List ℕ → ℕ → List ℕ → Called
registers_call image chip view =
    let seen : RegisterView = register_view chip (chain_of image) in
    viewed seen.verdict (table_bytes seen.table) view

-- pins: the view's first eight bytes get the picture of the chip
unfoldable pub pins_call : List ℕ → ℕ → List ℕ → Called
pins_call image chip view =
    let seen : PinView = pin_view chip (chain_of image) in
    viewed seen.verdict (picture_bytes seen.picture) view

-- meaning: how long the sentence of a number is; the text gets the sentence, as far as it has room
unfoldable pub meaning_call : ℕ → List ℕ → Called
meaning_call number text = record { number = length (meaning_of number); buffer = (written (text, 0) (meaning_of number)).0 }

-- a run's number, and the image, the results and the accepted count afterwards
pub record RunCalled : Type 0 where
  pub number : ℕ
  pub image : List ℕ
  pub results : List ℕ
  pub accepted : ℕ

-- what a run's call hands back, and what it leaves in the image, the results and the accepted count
abbrev pub run_left : ℕ → List ℕ → List ℕ → ℕ → RunCalled
run_left number image results accepted = record { number = number; image = image; results = results; accepted = accepted }

-- where nothing refuses it before any event, the model's run, also one that is refused at an event; otherwise nothing is written
unfoldable pub run_call : List ℕ → List ℕ → ℕ → List ℕ → ℕ → RunCalled
run_call image events limit results accepted =
    let r : Report = run_of (chain_of image) events limit results in
    cond (is_accepted (before_any (chain_of image) events results))
    (run_left (verdict_number r.ran.verdict) (image_of r.ran.chain) r.results r.ran.accepted)
    (run_left (verdict_number r.ran.verdict) image results accepted)
