-- Document 01, "Misreadings that come easily": a bench case against each, in the form of K1 to K12.
use Rattle.std.specs.Prelude.{List, [], ◌∷◌}
use Rattle.event.specs.declared.Event.TheVariants.{Command, Data, Line, Fall, Rise}
use Rattle.demands.specs.Bench.{Step, accepted, gives, shows, on_bench, ei_pin_of, eo_pin_of, rip_pin, pause_pin, irr_of, isr_of}
use Rattle.demands.specs.Cases.{Case, case}

-- in-service bits of chip 0 do not fence chip 1: its request is answered beside them
abbrev pub fence_ends_at_its_chip : List Step
fence_ends_at_its_chip =
    accepted (Command 0 0xA1)
    ∷ accepted (Command 1 0xA1)
    ∷ accepted (Command 0 0x20)
    ∷ accepted (Command 1 0x20)
    ∷ accepted (Command 0 0x58)
    ∷ gives Fall 0x00
    ∷ accepted Rise
    ∷ shows (isr_of 0) 0x01
    ∷ shows (ei_pin_of 1) 1
    ∷ accepted (Command 1 0x5F)
    ∷ gives Fall 0x00
    ∷ shows (isr_of 1) 0x80
    ∷ []

-- clear-highest in rotating order, with 3 answered and then 5, clears 3
abbrev pub clears_the_oldest : List Step
clears_the_oldest =
    accepted (Command 0 0x81)
    ∷ accepted (Command 0 0xA1)
    ∷ accepted (Command 0 0x20)
    ∷ accepted (Command 0 0x5B)
    ∷ gives Fall 0x00
    ∷ accepted Rise
    ∷ accepted (Command 0 0x5D)
    ∷ gives Fall 0x00
    ∷ accepted Rise
    ∷ shows (isr_of 0) 0x28
    ∷ accepted (Command 0 0x60)
    ∷ shows (isr_of 0) 0x20
    ∷ []

-- a line of a masked and disarmed chip is latched
abbrev pub masked_line_latches : List Step
masked_line_latches = accepted (Line 0 3 0) ∷ shows (irr_of 0) 0x08 ∷ []

-- PAUSE and EO follow the state: after a reset in mid-response neither is left as it was, and the next pulse is a first one
abbrev pub no_stale_pins : List Step
no_stale_pins =
    accepted (Command 0 0xE8)
    ∷ accepted (Data 0 0x11)
    ∷ accepted (Data 0 0x22)
    ∷ accepted (Command 0 0xA1)
    ∷ accepted (Command 0 0x28)
    ∷ accepted (Command 0 0x58)
    ∷ shows (eo_pin_of 0) 1
    ∷ gives Fall 0x11
    ∷ shows rip_pin 0
    ∷ shows pause_pin 1
    ∷ accepted Rise
    ∷ shows rip_pin 0
    ∷ shows (eo_pin_of 0) 0
    ∷ accepted (Command 0 0x00)
    ∷ shows rip_pin 1
    ∷ accepted (Command 0 0xA1)
    ∷ shows (eo_pin_of 0) 1
    ∷ accepted Fall
    ∷ shows rip_pin 1
    ∷ shows pause_pin 0
    ∷ accepted Rise
    ∷ shows pause_pin 1
    ∷ []

-- a response under way keeps the level and the length it began with, whatever count and mode are written
abbrev pub held_to_the_end : List Step
held_to_the_end =
    accepted (Command 0 0xE9)
    ∷ accepted (Data 0 0x33)
    ∷ accepted (Data 0 0x44)
    ∷ accepted (Command 0 0xA1)
    ∷ accepted (Command 0 0x29)
    ∷ accepted (Command 0 0x59)
    ∷ gives Fall 0x33
    ∷ accepted Rise
    ∷ accepted (Command 0 0xE1)
    ∷ accepted (Command 0 0x82)
    ∷ gives Fall 0x44
    ∷ shows rip_pin 0
    ∷ accepted Rise
    ∷ shows rip_pin 1
    ∷ []

abbrev pub misreadings : List Case
misreadings =
    case 1 (on_bench 2 0 fence_ends_at_its_chip)
    ∷ case 2 (on_bench 1 0 clears_the_oldest)
    ∷ case 3 (on_bench 1 0 masked_line_latches)
    ∷ case 4 (on_bench 1 0 no_stale_pins)
    ∷ case 5 (on_bench 1 0 held_to_the_end)
    ∷ []
