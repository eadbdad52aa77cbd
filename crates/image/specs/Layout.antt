-- The chain image: a chain as 528 bytes. A head of 16, then the eight chip records of 64, chip 0 first.
use Rattle.std.specs.Prelude.{Some, None, List, [], ◌∷◌, ◌++◌, ℕ, ◌+◌, ◌/◌, ◌%◌, length, take, drop, replicate}
use Rattle.bits.specs.Below.{digit}
use Rattle.chip.specs.declared.Chip.{Chip}
use Rattle.chip.specs.declared.Destination.{Destination}
use Rattle.chip.specs.declared.Destination.TheVariants.{Nowhere, Imr, Acr, Level}
use Rattle.chain.specs.declared.Chain.{Chain}
use Rattle.response.specs.Held.{Response}

-- a destination: 0 none, 1 IMR, 2 ACR, 3 a level; then its level and its place, both 0 unless it is a level
abbrev pub destination_bytes : Destination → List ℕ
destination_bytes Nowhere = 0 ∷ 0 ∷ 0 ∷ []
destination_bytes Imr = 1 ∷ 0 ∷ 0 ∷ []
destination_bytes Acr = 2 ∷ 0 ∷ 0 ∷ []
destination_bytes (Level level place) = 3 ∷ level ∷ place ∷ []

-- bytes 0 to 15 of a chip record: the registers and the destination; 11 to 15 are zero
abbrev pub register_bytes : Chip → List ℕ
register_bytes c =
    c.irr ∷ c.isr ∷ c.imr ∷ c.acr ∷ c.mode ∷ c.command ∷ c.lines ∷ c.pointer ∷ destination_bytes c.destination ++ replicate 5 0

-- a chip record: 16 to 23 are the count codes, 24 to 31 zero, 32 to 63 the response memory by level and place
unfoldable pub chip_record : Chip → List ℕ
chip_record c = register_bytes c ++ c.counts ++ replicate 8 0 ++ c.memory

-- a response: 0 none, 1 under way; then its chip, channel, level, length and bytes delivered, all 0 if none
abbrev pub response_bytes : Response → List ℕ
response_bytes None = 0 ∷ 0 ∷ 0 ∷ 0 ∷ 0 ∷ 0 ∷ []
response_bytes (Some r) = 1 ∷ r.chip ∷ r.channel ∷ r.level ∷ r.length ∷ r.delivered ∷ []

-- the head: count, Enable In, IACK, the event number with its low byte first, the response; 11 to 15 are zero
unfoldable pub head : Chain → List ℕ
head s =
    s.count ∷ digit s.enable ∷ digit s.iack ∷ s.event % 256 ∷ s.event / 256 ∷ response_bytes s.response ++ replicate 5 0

-- chip records, one behind the other
abbrev pub records : List Chip → List ℕ
records [] = []
records (c ∷ cs) = chip_record c ++ records cs

unfoldable pub image_of : Chain → List ℕ
image_of s = head s ++ records s.chips

-- bytes with others written over those from a place on; what is before and behind them stays
abbrev pub over : List ℕ → ℕ → List ℕ → List ℕ
over old at new = take at old ++ new ++ drop (at + length new) old
