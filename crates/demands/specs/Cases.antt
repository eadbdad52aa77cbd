-- Document 01, "On the bench": cases K1 to K12, as one list. Codes are hex; one chip and fill 0 unless said.
use Rattle.std.specs.Prelude.{Bool, true, List, [], ◌∷◌, ◌++◌, ◌≡◌, ℕ}
use Rattle.refusal.specs.Answers.{handed}
use Rattle.chain.specs.Events.{event_of}
use Rattle.chain.specs.declared.Chain.{Chain}
use Rattle.event.specs.declared.Event.{Event}
use Rattle.event.specs.declared.Event.TheVariants.{Command, Data, Status, Read, Line, Fall, Rise}
use Rattle.demands.specs.Bench.{Step, accepted, gives, refused, shows, on_bench, gint_pin_of, ei_pin_of, pause_pin, irr_of, isr_of, imr_of}

-- K1 start, status: 40. (As after reset, so all is masked)
abbrev pub k1 : List Step
k1 = gives (Status 0) 0x40 ∷ shows (imr_of 0) 0xFF ∷ []

-- K2 then A1, status: 48
abbrev pub k2 : List Step
k2 = k1 ++ (accepted (Command 0 0xA1) ∷ gives (Status 0) 0x48 ∷ [])

-- K3 then 28 and 58, status: C8, GINT pin 0
abbrev pub k3 : List Step
k3 = k2 ++ (accepted (Command 0 0x28) ∷ accepted (Command 0 0x58) ∷ gives (Status 0) 0xC8 ∷ shows (gint_pin_of 0) 0 ∷ [])

-- K4 after K2, 2D and 5D instead: CD
abbrev pub k4 : List Step
k4 = k2 ++ (accepted (Command 0 0x2D) ∷ accepted (Command 0 0x5D) ∷ gives (Status 0) 0xCD ∷ [])

-- K5 after K3, fall gives 00, IRR 00; rise, data read gives 01
abbrev pub k5 : List Step
k5 = k3 ++ (gives Fall 0x00 ∷ shows (irr_of 0) 0x00 ∷ accepted Rise ∷ gives (Read 0) 0x01 ∷ [])

-- K6 F2 then data CD 34 12: accepted; a fourth, whatever its byte, is 9. Armed, 2A and 5A: three pulses drive CD, 34, 12
abbrev pub k6 : ℕ → List Step
k6 fourth =
    accepted (Command 0 0xF2)
    ∷ accepted (Data 0 0xCD)
    ∷ accepted (Data 0 0x34)
    ∷ accepted (Data 0 0x12)
    ∷ refused (Data 0 fourth) 9
    ∷ accepted (Command 0 0xA1)
    ∷ accepted (Command 0 0x2A)
    ∷ accepted (Command 0 0x5A)
    ∷ gives Fall 0xCD
    ∷ accepted Rise
    ∷ gives Fall 0x34
    ∷ accepted Rise
    ∷ gives Fall 0x12
    ∷ accepted Rise
    ∷ []

-- K7 two chips, only chip 1 armed with 0 pending and unmasked: fall stalls, chip 1 has EI 0. (Pending by a falling edge on its line)
abbrev pub k7 : List Step
k7 =
    accepted (Command 1 0xA1)
    ∷ accepted (Command 1 0x28)
    ∷ accepted (Line 1 0 0)
    ∷ shows (gint_pin_of 1) 0
    ∷ accepted Fall
    ∷ shows pause_pin 0
    ∷ shows (ei_pin_of 1) 0
    ∷ []

-- K8 both armed, chip 0 has 7 pending, chip 1 has 0: chip 0 answers 7. (Chip 1's is pending by a rising edge, M4 set)
abbrev pub k8 : List Step
k8 =
    accepted (Command 0 0xA1)
    ∷ accepted (Command 1 0xA1)
    ∷ accepted (Command 0 0x2F)
    ∷ accepted (Command 0 0x5F)
    ∷ accepted (Command 1 0x28)
    ∷ accepted (Command 1 0x90)
    ∷ accepted (Line 1 0 0)
    ∷ shows (irr_of 1) 0x00
    ∷ accepted (Line 1 0 1)
    ∷ shows (irr_of 1) 0x01
    ∷ gives Fall 0x00
    ∷ shows (irr_of 0) 0x00
    ∷ shows (isr_of 0) 0x80
    ∷ shows (irr_of 1) 0x01
    ∷ shows (isr_of 1) 0x00
    ∷ []

-- K9 ISR bit 3, fixed: pending 3 alone is no candidate; pending 2 is
abbrev pub k9 : List Step
k9 =
    accepted (Command 0 0xA1)
    ∷ accepted (Command 0 0x20)
    ∷ accepted (Command 0 0x5B)
    ∷ gives Fall 0x00
    ∷ accepted Rise
    ∷ shows (isr_of 0) 0x08
    ∷ accepted (Command 0 0x5B)
    ∷ shows (irr_of 0) 0x08
    ∷ gives (Status 0) 0x48
    ∷ accepted (Command 0 0x4B)
    ∷ accepted (Command 0 0x5A)
    ∷ shows (irr_of 0) 0x04
    ∷ gives (Status 0) 0xCA
    ∷ []

-- K10 rotating, pointer 3, all unmasked and auto clear, pending 2, 3, 4: answered 4, 2, 3. (An answer to 3 makes the pointer 3)
abbrev pub k10 : List Step
k10 =
    accepted (Command 0 0x81)
    ∷ accepted (Command 0 0xA1)
    ∷ accepted (Command 0 0x20)
    ∷ accepted (Command 0 0xC0)
    ∷ accepted (Data 0 0xFF)
    ∷ accepted (Command 0 0x5B)
    ∷ gives Fall 0x00
    ∷ accepted Rise
    ∷ accepted (Command 0 0x5A)
    ∷ accepted (Command 0 0x5B)
    ∷ accepted (Command 0 0x5C)
    ∷ shows (irr_of 0) 0x1C
    ∷ shows (isr_of 0) 0x00
    ∷ gives Fall 0x00
    ∷ shows (isr_of 0) 0x10
    ∷ accepted Rise
    ∷ gives Fall 0x00
    ∷ shows (isr_of 0) 0x04
    ∷ accepted Rise
    ∷ gives Fall 0x00
    ∷ shows (isr_of 0) 0x08
    ∷ accepted Rise
    ∷ []

-- K11 01, A3, D0 refused 7; 00, A2, CF accepted
abbrev pub k11 : List Step
k11 =
    refused (Command 0 0x01) 7
    ∷ refused (Command 0 0xA3) 7
    ∷ refused (Command 0 0xD0) 7
    ∷ accepted (Command 0 0x00)
    ∷ accepted (Command 0 0xA2)
    ∷ accepted (Command 0 0xCF)
    ∷ []

-- K12 event number 65,535, any accepted event: 0
abbrev pub K12 : Type 0
K12 = (s : Chain) (e : Event) → s.event ≡ 65535 → (handed (event_of e s).answer).number ≡ 0 → (event_of e s).chain.event ≡ 0

-- a case of the bench: its number, and what it claims
pub record Case : Type 1 where
  pub number : ℕ
  pub claim : Type 0

-- a list of steps that goes as it is written
abbrev pub case : ℕ → Bool → Case
case number went = record { number = number; claim = went ≡ true }

abbrev pub cases : List Case
cases =
    case 1 (on_bench 1 0 k1)
    ∷ case 2 (on_bench 1 0 k2)
    ∷ case 3 (on_bench 1 0 k3)
    ∷ case 4 (on_bench 1 0 k4)
    ∷ case 5 (on_bench 1 0 k5)
    ∷ record { number = 6; claim = (fourth : ℕ) → on_bench 1 0 (k6 fourth) ≡ true }
    ∷ case 7 (on_bench 2 0 k7)
    ∷ case 8 (on_bench 2 0 k8)
    ∷ case 9 (on_bench 1 0 k9)
    ∷ case 10 (on_bench 1 0 k10)
    ∷ case 11 (on_bench 1 0 k11)
    ∷ record { number = 12; claim = K12 }
    ∷ []

-- every case of a list holds
abbrev pub Hold : List Case → Type 0
Hold [] = Unit {0}
Hold (c ∷ cs) = c.claim × Hold cs
