-- Corners that the paper decides in half a sentence, and docs/DECISIONS.md in a whole one: a bench case for each, in the form of K1 to K12.
use Rattle.std.specs.Prelude.{List, [], ◌∷◌}
use Rattle.event.specs.declared.Event.TheVariants.{Command, Data, Status, Read, Line, Enable, Fall, Rise}
use Rattle.demands.specs.Bench.{Step, accepted, gives, refused, shows, on_bench, gint_pin_of, ei_pin_of, rip_pin, pause_pin, irr_of, isr_of, imr_of}
use Rattle.demands.specs.Cases.{Case, case}

-- Enable In low: GINT stays active, the pulse stalls, and Enable In that rises late does not end the stall
abbrev pub late_enable : List Step
late_enable =
    accepted (Command 0 0xA1)
    ∷ accepted (Command 0 0x28)
    ∷ accepted (Command 0 0x58)
    ∷ accepted (Enable 0)
    ∷ shows (ei_pin_of 0) 0
    ∷ shows (gint_pin_of 0) 0
    ∷ gives (Status 0) 0x88
    ∷ accepted Fall
    ∷ shows pause_pin 0
    ∷ accepted (Enable 1)
    ∷ shows pause_pin 0
    ∷ shows (irr_of 0) 0x01
    ∷ accepted Rise
    ∷ gives Fall 0x00
    ∷ shows (isr_of 0) 0x01
    ∷ []

-- a request that arrives in a stalled pulse: GINT goes active, the pulse stalls on, and the next one answers
abbrev pub request_in_a_stall : List Step
request_in_a_stall =
    accepted (Command 0 0xA1)
    ∷ accepted (Command 0 0x2B)
    ∷ accepted Fall
    ∷ shows pause_pin 0
    ∷ shows (gint_pin_of 0) 2
    ∷ accepted (Line 0 3 0)
    ∷ shows (irr_of 0) 0x08
    ∷ shows (gint_pin_of 0) 0
    ∷ shows rip_pin 1
    ∷ shows pause_pin 0
    ∷ shows (isr_of 0) 0x00
    ∷ accepted Rise
    ∷ shows pause_pin 1
    ∷ gives Fall 0x00
    ∷ shows (isr_of 0) 0x08
    ∷ shows pause_pin 1
    ∷ []

-- a polled chip has S7 and no GINT, and passes the acknowledge on
abbrev pub polled_in_the_chain : List Step
polled_in_the_chain =
    accepted (Command 0 0x84)
    ∷ accepted (Command 0 0xA1)
    ∷ accepted (Command 0 0x28)
    ∷ accepted (Command 0 0x58)
    ∷ accepted (Command 1 0xA1)
    ∷ accepted (Command 1 0x2B)
    ∷ accepted (Command 1 0x5B)
    ∷ gives (Status 0) 0xD8
    ∷ shows (gint_pin_of 0) 2
    ∷ gives Fall 0x00
    ∷ shows (irr_of 0) 0x01
    ∷ shows (isr_of 1) 0x08
    ∷ []

-- common vector: the bytes are level 0's, the length is channel 3's, and so are the ISR and ACR bits. (Fill 5A)
abbrev pub common_vector : List Step
common_vector =
    accepted (Command 0 0xE0)
    ∷ accepted (Data 0 0x11)
    ∷ accepted (Command 0 0xEB)
    ∷ accepted (Command 0 0xC0)
    ∷ accepted (Data 0 0x08)
    ∷ accepted (Command 0 0x82)
    ∷ accepted (Command 0 0xA1)
    ∷ accepted (Command 0 0x2B)
    ∷ accepted (Command 0 0x5B)
    ∷ gives Fall 0x11
    ∷ shows (isr_of 0) 0x08
    ∷ accepted Rise
    ∷ shows rip_pin 0
    ∷ gives Fall 0x5A
    ∷ accepted Rise
    ∷ shows rip_pin 1
    ∷ shows (isr_of 0) 0x00
    ∷ []

-- a two-byte response on level 3, up to the end of its first pulse
abbrev pub first_of_two : List Step → List Step
first_of_two rest =
    accepted (Command 0 0xEB)
    ∷ accepted (Data 0 0x33)
    ∷ accepted (Data 0 0x44)
    ∷ accepted (Command 0 0xA1)
    ∷ accepted (Command 0 0x2B)
    ∷ accepted (Command 0 0x5B)
    ∷ gives Fall 0x33
    ∷ accepted Rise
    ∷ rest

-- the ACR bit counts as it stands at the last rise
abbrev pub late_auto_clear : List Step
late_auto_clear =
    first_of_two
    (accepted (Command 0 0xC0)
    ∷ accepted (Data 0 0x08)
    ∷ gives Fall 0x44
    ∷ shows (isr_of 0) 0x08
    ∷ accepted Rise
    ∷ shows (isr_of 0) 0x00
    ∷ [])

-- a byte rewritten before its pulse is driven as rewritten; disarmed meanwhile, the response goes on
abbrev pub rewritten_byte : List Step
rewritten_byte =
    first_of_two
    (accepted (Command 0 0xEB)
    ∷ accepted (Data 0 0x55)
    ∷ accepted (Data 0 0x66)
    ∷ accepted (Command 0 0xA2)
    ∷ gives Fall 0x66
    ∷ accepted Rise
    ∷ shows rip_pin 1
    ∷ [])

-- a reset of another chip leaves the response under way
abbrev pub another_chip_reset : List Step
another_chip_reset = first_of_two (accepted (Command 1 0x00) ∷ shows rip_pin 0 ∷ gives Fall 0x44 ∷ [])

-- IMR takes data writes without end, a read between them does not matter, and any accepted command ends them
abbrev pub destination_ends : List Step
destination_ends =
    accepted (Command 0 0xB0)
    ∷ accepted (Data 0 0x0F)
    ∷ gives (Read 0) 0x00
    ∷ accepted (Data 0 0xF0)
    ∷ shows (imr_of 0) 0xF0
    ∷ refused (Command 0 0xD0) 7
    ∷ accepted (Data 0 0x3C)
    ∷ shows (imr_of 0) 0x3C
    ∷ accepted (Command 0 0x60)
    ∷ refused (Data 0 0x00) 8
    ∷ []

-- bus accesses during a pulse, and a level that IACK has already
abbrev pub during_a_pulse : List Step
during_a_pulse =
    refused Rise 6
    ∷ accepted Fall
    ∷ refused Fall 6
    ∷ refused (Command 0 0xA1) 5
    ∷ refused (Data 0 0x00) 5
    ∷ refused (Status 0) 5
    ∷ refused (Read 0) 5
    ∷ []

abbrev pub corners : List Case
corners =
    case 1 (on_bench 1 0 late_enable)
    ∷ case 2 (on_bench 2 0 polled_in_the_chain)
    ∷ case 3 (on_bench 1 0x5A common_vector)
    ∷ case 4 (on_bench 1 0 late_auto_clear)
    ∷ case 5 (on_bench 1 0 rewritten_byte)
    ∷ case 6 (on_bench 2 0 another_chip_reset)
    ∷ case 7 (on_bench 1 0 destination_ends)
    ∷ case 8 (on_bench 1 0 during_a_pulse)
    ∷ case 9 (on_bench 1 0 request_in_a_stall)
    ∷ []
