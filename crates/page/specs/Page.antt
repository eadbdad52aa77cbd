-- What a page says of a state: the event with its step, and for each chip in the count its pins and its registers, with one event number.
use Rattle.std.specs.Prelude.{Some, None, Ok, Err, cond, List, [], ◌∷◌, ◌++◌, ℕ, zero, suc, ◌+◌, eqb}
use Rattle.refusal.specs.Numbers.{is_accepted, Answer}
use Rattle.chain.specs.declared.Chain.{Chain}
use Rattle.event.specs.declared.Numbered.{Numbered}
use Rattle.steps.specs.Spelled.{spelled}
use Rattle.text.specs.Written.{text, decimal, joined, field, byte_field}
use Rattle.views.specs.Views.{register_view, pin_view}
use Rattle.views.specs.declared.PinView.{PinView}
use Rattle.views.specs.declared.Pins.{Pins}
use Rattle.views.specs.declared.RegisterView.{RegisterView}
use Rattle.views.specs.declared.Registers.{Registers}

-- GINT is `z` where it is released
abbrev pub gint_field : ℕ → List ℕ
gint_field gint = cond (eqb gint 2) (text " GINT z") (field " GINT " gint)

-- a line begins with its name, the event's number and the chip's
abbrev pub heading : List ℕ → ℕ → ℕ → List (List ℕ)
heading name event i = (name ++ decimal event) ∷ field " chip " i ∷ []

-- pins N chip I EI e EO o GINT g RIP r PAUSE p IACK i
abbrev pub chip_pins : Pins → List (List ℕ)
chip_pins p = field " EI " p.ei ∷ field " EO " p.eo ∷ gint_field p.gint ∷ []

abbrev pub chain_pins : Pins → List (List ℕ)
chain_pins p = field " RIP " p.rip ∷ field " PAUSE " p.pause ∷ field " IACK " p.iack ∷ []

abbrev pub pins_parts : ℕ → Pins → List (List ℕ)
pins_parts i p = joined (heading (text "pins ") p.event i) ∷ joined (chip_pins p) ∷ joined (chain_pins p) ∷ text "\n" ∷ []

-- registers N chip I IRR hh ISR hh IMR hh ACR hh MODE hh STATUS hh WAITING n
abbrev pub request_bytes : Registers → List (List ℕ)
request_bytes r = byte_field " IRR " r.irr ∷ byte_field " ISR " r.isr ∷ byte_field " IMR " r.imr ∷ byte_field " ACR " r.acr ∷ []

abbrev pub state_fields : Registers → List (List ℕ)
state_fields r = byte_field " MODE " r.mode ∷ byte_field " STATUS " r.status ∷ field " WAITING " r.waiting ∷ []

abbrev pub registers_parts : ℕ → Registers → List (List ℕ)
registers_parts i r = joined (heading (text "registers ") r.event i) ∷ joined (request_bytes r) ∷ joined (state_fields r) ∷ text "\n" ∷ []

-- the two lines of chip i are its two views; a view that is refused has no line
unfoldable pub pins_line : ℕ → PinView → List ℕ
pins_line i view = cond (is_accepted view.verdict) (joined (pins_parts i view.picture)) []

unfoldable pub registers_line : ℕ → RegisterView → List ℕ
registers_line i view = cond (is_accepted view.verdict) (joined (registers_parts i view.table)) []

abbrev pub chip_lines : ℕ → Chain → List ℕ
chip_lines i s = pins_line i (pin_view i s) ++ registers_line i (register_view i s)

-- as many chips, from one on
abbrev pub chips_from : ℕ → ℕ → Chain → List ℕ
chips_from zero i s = []
chips_from (suc more) i s = chip_lines i s ++ chips_from more (i + 1) s

-- event N at L STEP accepted, and the byte where one was driven or read
abbrev pub byte_text : Answer → List ℕ
byte_text (Ok None) = []
byte_text (Ok (Some b)) = byte_field " byte " b
byte_text (Err why) = []

abbrev pub event_parts : ℕ → Numbered → Answer → ℕ → List (List ℕ)
event_parts line step answer event =
    field "event " event ∷ field " at " line ∷ text " " ∷ spelled step ∷ text " accepted" ∷ byte_text answer ∷ text "\n" ∷ []

-- the page after an accepted step, from its line of the list
unfoldable pub page_of : ℕ → Numbered → Answer → Chain → List ℕ
page_of line step answer s = joined (event_parts line step answer s.event) ++ chips_from s.count 0 s
