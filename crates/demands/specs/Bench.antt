-- How a bench case is written: events with what each must hand back, and fields of the two views, on one chain from its start.
use Rattle.std.specs.Prelude.{Bool, true, ◌&&◌, List, [], ◌∷◌, ℕ, eqb}
use Rattle.refusal.specs.Answers.{Handed, handed}
use Rattle.refusal.specs.Numbers.{verdict_number}
use Rattle.views.specs.Views.{register_view, pin_view}
use Rattle.views.specs.declared.Pins.{Pins}
use Rattle.views.specs.declared.Registers.{Registers}
use Rattle.chain.specs.Events.{event_of}
use Rattle.chain.specs.Start.{start_of}
use Rattle.chain.specs.declared.Chain.{Chain}
use Rattle.event.specs.declared.Event.{Event}

-- a field of a view: the number that the view hands back, and the field's value
pub record Field : Type 0 where
  pub number : ℕ
  pub value : ℕ

pub data Step : Type 0 where
  -- the event is accepted, and no byte is driven or read
  accepted : Event → Step
  -- the event is accepted, and this byte is driven or read
  gives : Event → ℕ → Step
  -- the event is refused by this number
  refused : Event → ℕ → Step
  -- the view is given, and its field has this value: a refused view has every field 0, so its number is asked for too
  shows : (Chain → Field) → ℕ → Step

-- what an event hands back: its number, whether there is a byte, and the byte
abbrev pub hands : Handed → ℕ → ℕ → ℕ → Bool
hands h number drove byte = eqb h.number number && eqb h.drove drove && eqb h.byte byte

-- the step goes as it is written
abbrev pub goes : Step → Chain → Bool
goes (accepted e) s = hands (handed (event_of e s).answer) 0 0 0
goes (gives e byte) s = hands (handed (event_of e s).answer) 0 1 byte
goes (refused e number) s = hands (handed (event_of e s).answer) number 0 0
goes (shows field value) s = eqb (field s).number 0 && eqb (field s).value value

-- the chain that the step leaves
abbrev pub after_step : Step → Chain → Chain
after_step (accepted e) s = (event_of e s).chain
after_step (gives e byte) s = (event_of e s).chain
after_step (refused e number) s = (event_of e s).chain
after_step (shows field value) s = s

-- every step of the list, one after the other
unfoldable pub all : List Step → Chain → Bool
all [] s = true
all (step ∷ steps) s = goes step s && all steps (after_step step s)

-- the start of so many chips with this fill is accepted, and the list goes on its chain
abbrev pub on_bench : ℕ → ℕ → List Step → Bool
on_bench count fill steps = hands (handed (start_of count fill).answer) 0 0 0 && all steps (start_of count fill).chain

-- a field of the picture of chip i, and one of its table
abbrev pub pin_of : (Pins → ℕ) → ℕ → Chain → Field
pin_of pin i s = record { number = verdict_number (pin_view i s).verdict; value = pin (pin_view i s).picture }

abbrev pub register_of : (Registers → ℕ) → ℕ → Chain → Field
register_of register i s = record { number = verdict_number (register_view i s).verdict; value = register (register_view i s).table }

abbrev pub gint_pin_of : ℕ → Chain → Field
gint_pin_of i s = pin_of (λ pins. pins.gint) i s

abbrev pub ei_pin_of : ℕ → Chain → Field
ei_pin_of i s = pin_of (λ pins. pins.ei) i s

abbrev pub eo_pin_of : ℕ → Chain → Field
eo_pin_of i s = pin_of (λ pins. pins.eo) i s

-- the chain's pins, in the view of chip 0
abbrev pub rip_pin : Chain → Field
rip_pin s = pin_of (λ pins. pins.rip) 0 s

abbrev pub pause_pin : Chain → Field
pause_pin s = pin_of (λ pins. pins.pause) 0 s

abbrev pub irr_of : ℕ → Chain → Field
irr_of i s = register_of (λ registers. registers.irr) i s

abbrev pub isr_of : ℕ → Chain → Field
isr_of i s = register_of (λ registers. registers.isr) i s

abbrev pub imr_of : ℕ → Chain → Field
imr_of i s = register_of (λ registers. registers.imr) i s
