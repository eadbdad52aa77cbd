-- The calls from C over an image of a chain: by the one table of numbers, without a trace where they are refused, and otherwise the model's own calls
-- between reading the image and writing it. That each call hands back and leaves just this is `outcomes/specs/Outcomes`: `start_call_outcome`, `run_call_outcome`, `registers_call_outcome`, `pins_call_outcome`.
use Rattle.std.specs.Prelude.{Bool, true, false, not, ◌&&◌, ◌||◌, List, [], ◌∷◌, ◌++◌, ◌≡◌, ℕ, ◌/◌, min, eqb, leb, ltb, length, drop}
use Rattle.bits.specs.Below.{digit}
use Rattle.bits.specs.Byte.{bit}
use Rattle.refusal.specs.Numbers.{verdict_number}
use Rattle.views.specs.Views.{register_view, pin_view}
use Rattle.chain.specs.Start.{start_of}
use Rattle.run.specs.Run.{Report, run_of}
use Rattle.image.specs.Layout.{image_of, over}
use Rattle.image.specs.Reading.{byte, chain_in, is_image}
use Rattle.am9519a.specs.Calls.{RunCalled, table_bytes, picture_bytes, start_call, run_call, registers_call, pins_call}
use Rattle.demands.specs.Agree.{gint_reads_active}
use Rattle.demands.specs.Table.{Entry, given, chain_not_sound, chip_not_below, run_entries, last_entries}

-- 1 is also for what is no image: another length than 528, or not of the form
abbrev pub no_image : List ℕ → Entry
no_image image = (1, not (is_image image))

-- 11 is also for a view's buffer under so many bytes
abbrev pub no_room : ℕ → List ℕ → Entry
no_room n view = (11, ltb (length view) n)

-- 1, 2 and 11, for a view of a chip
abbrev pub view_entries : ℕ → List ℕ → ℕ → List ℕ → List Entry
view_entries n image chip view = no_image image ∷ chain_not_sound (chain_in image) ∷ chip_not_below chip (chain_in image) ∷ no_room n view ∷ []

-- a number that a run takes before any event
abbrev pub is_before_any : ℕ → Bool
is_before_any n = eqb n 1 || eqb n 10 || eqb n 11

-- what a run's call leaves
pub record Left (c : RunCalled) (image results : List ℕ) (accepted : ℕ) : Type 0 where
  pub in_image : c.image ≡ image
  pub in_results : c.results ≡ results
  pub in_accepted : c.accepted ≡ accepted

pub record FromC : Type 0 where
  -- the number is that of the first entry that applies; for a start, another length than 528 or a count outside 1 to 8
  pub start_number : (count fill : ℕ) (image : List ℕ)
      → (start_call count fill image).number ≡ given ((1, not (eqb (length image) 528)) ∷ (1, not (leb 1 count && leb count 8)) ∷ [])
  pub run_number : (image events : List ℕ) (limit : ℕ) (results : List ℕ) (accepted : ℕ)
      → (run_call image events limit results accepted).number
      ≡ given (no_image image ∷ run_entries (chain_in image) events results ++ last_entries events (min limit (length events / 4)) (run_of (chain_in image) events limit results))
  pub registers_number : (image : List ℕ) (chip : ℕ) (view : List ℕ) → (registers_call image chip view).number ≡ given (view_entries 9 image chip view)
  pub pins_number : (image : List ℕ) (chip : ℕ) (view : List ℕ) → (pins_call image chip view).number ≡ given (view_entries 8 image chip view)
  -- a refused call writes nothing; of a run that is the one refused by 1, 10 or 11
  pub start_refused : (count fill : ℕ) (image : List ℕ) → ((start_call count fill image).number ≡ 0 → ⊥) → (start_call count fill image).buffer ≡ image
  pub run_refused : (image events : List ℕ) (limit : ℕ) (results : List ℕ) (accepted : ℕ)
      → is_before_any (run_call image events limit results accepted).number ≡ true
      → Left (run_call image events limit results accepted) image results accepted
  pub registers_refused : (image : List ℕ) (chip : ℕ) (view : List ℕ) → ((registers_call image chip view).number ≡ 0 → ⊥) → (registers_call image chip view).buffer ≡ view
  pub pins_refused : (image : List ℕ) (chip : ℕ) (view : List ℕ) → ((pins_call image chip view).number ≡ 0 → ⊥) → (pins_call image chip view).buffer ≡ view
  -- and of a longer buffer an accepted view leaves what is past its own bytes
  pub registers_rest : (image : List ℕ) (chip : ℕ) (view : List ℕ) → drop 9 (registers_call image chip view).buffer ≡ drop 9 view
  pub pins_rest : (image : List ℕ) (chip : ℕ) (view : List ℕ) → drop 8 (pins_call image chip view).buffer ≡ drop 8 view

-- the bytes of a table and of a picture agree: one event number in both, S6 is the byte of EI, and GINT reads active just where S7 is set and S4 is not
pub record BytesAgree (table picture : List ℕ) : Type 0 where
  pub event_low : byte table 0 ≡ byte picture 0
  pub event_high : byte table 1 ≡ byte picture 1
  pub s6_is_ei : digit (bit (byte table 7) 6) ≡ byte picture 2
  pub gint_is_s7_and_not_s4 : gint_reads_active (byte table 6) (byte picture 4) ≡ bit (byte table 7) 7 && not (bit (byte table 7) 4)

pub record AsTheModel : Type 0 where
  -- an accepted start leaves the image of the model's start
  pub start : (count fill : ℕ) (image : List ℕ) → (start_call count fill image).number ≡ 0 → (start_call count fill image).buffer ≡ image_of (start_of count fill).chain
  -- a run that is not refused before any event is the model's run, also where it is refused at an event
  pub run : (image events : List ℕ) (limit : ℕ) (results : List ℕ) (accepted : ℕ)
      → is_before_any (run_call image events limit results accepted).number ≡ false
      → let r : Report = run_of (chain_in image) events limit results in
      Left (run_call image events limit results accepted) (image_of r.ran.chain) r.results r.ran.accepted
  -- and of an image its number is that of the model's run
  pub run_told : (image events : List ℕ) (limit : ℕ) (results : List ℕ) (accepted : ℕ) → is_image image ≡ true
      → (run_call image events limit results accepted).number ≡ verdict_number (run_of (chain_in image) events limit results).ran.verdict
  -- what both leave is an image, and reading it gives the model's chain: that is the chain of the next call
  pub start_read : (count fill : ℕ) (image : List ℕ) → (start_call count fill image).number ≡ 0
      → (is_image (start_call count fill image).buffer ≡ true) × (chain_in (start_call count fill image).buffer ≡ (start_of count fill).chain)
  pub run_read : (image events : List ℕ) (limit : ℕ) (results : List ℕ) (accepted : ℕ)
      → is_before_any (run_call image events limit results accepted).number ≡ false
      → (is_image (run_call image events limit results accepted).image ≡ true)
      × (chain_in (run_call image events limit results accepted).image ≡ (run_of (chain_in image) events limit results).ran.chain)
  -- an accepted view has the bytes of the model's view
  pub registers : (image : List ℕ) (chip : ℕ) (view : List ℕ) → (registers_call image chip view).number ≡ 0
      → (registers_call image chip view).buffer ≡ over view 0 (table_bytes (register_view chip (chain_in image)).table)
  pub pins : (image : List ℕ) (chip : ℕ) (view : List ℕ) → (pins_call image chip view).number ≡ 0
      → (pins_call image chip view).buffer ≡ over view 0 (picture_bytes (pin_view chip (chain_in image)).picture)
  -- the table and the picture of a chip of one image agree, byte by byte
  pub agree : (image : List ℕ) (chip : ℕ) (table picture : List ℕ) → (registers_call image chip table).number ≡ 0 → (pins_call image chip picture).number ≡ 0
      → BytesAgree (registers_call image chip table).buffer (pins_call image chip picture).buffer
  -- and the event number in them is the image's own
  pub event_of_image : (image : List ℕ) (chip : ℕ) (view : List ℕ) → (registers_call image chip view).number ≡ 0
      → (byte (registers_call image chip view).buffer 0 ≡ byte image 3) × (byte (registers_call image chip view).buffer 1 ≡ byte image 4)
