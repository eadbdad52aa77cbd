-- The chain in an image, and which bytes are an image.
use Rattle.std.specs.Prelude.{Some, None, Bool, true, cond, ◌&&◌, ◌||◌, List, [], ◌∷◌, ℕ, zero, suc, ◌+◌, ◌*◌, eqb, leb, ltb, length, get_or, take, drop}
use Rattle.bits.specs.Below.{every}
use Rattle.chip.specs.declared.Chip.{Chip}
use Rattle.chip.specs.declared.Destination.{Destination}
use Rattle.chip.specs.declared.Destination.TheVariants.{Nowhere, Imr, Acr, Level}
use Rattle.chain.specs.declared.Chain.{Chain}
use Rattle.response.specs.Held.{Response}

-- byte n
abbrev pub byte : List ℕ → ℕ → ℕ
byte b n = get_or b n 0

abbrev pub destination_in : ℕ → ℕ → ℕ → Destination
destination_in kind level place =
    cond (eqb kind 1) Imr (cond (eqb kind 2) Acr (cond (eqb kind 3) (Level level place) Nowhere))

-- the chip whose record begins here
unfoldable pub chip_in : List ℕ → Chip
chip_in r =
    record {
      irr = byte r 0;
      isr = byte r 1;
      imr = byte r 2;
      acr = byte r 3;
      mode = byte r 4;
      command = byte r 5;
      memory = take 32 (drop 32 r);
      counts = take 8 (drop 16 r);
      lines = byte r 6;
      pointer = byte r 7;
      destination = destination_in (byte r 8) (byte r 9) (byte r 10);
    }

-- so many chips, whose records begin here
abbrev pub chips_in : ℕ → List ℕ → List Chip
chips_in zero b = []
chips_in (suc n) b = chip_in b ∷ chips_in n (drop 64 b)

unfoldable pub response_in : List ℕ → Response
response_in b =
    cond (eqb (byte b 5) 1)
    (Some (record { chip = byte b 6; channel = byte b 7; level = byte b 8; length = byte b 9; delivered = byte b 10 }))
    None

unfoldable pub chain_in : List ℕ → Chain
chain_in b =
    record {
      count = byte b 0;
      chips = chips_in 8 (drop 16 b);
      enable = eqb (byte b 1) 1;
      iack = eqb (byte b 2) 1;
      response = response_in b;
      event = byte b 3 + 256 * byte b 4;
    }

-- bytes that are all zero
abbrev pub is_zero : List ℕ → Bool
is_zero [] = true
is_zero (x ∷ xs) = eqb x 0 && is_zero xs

-- a response's six bytes: the first is 1, or all are zero
abbrev pub response_form : List ℕ → Bool
response_form b = eqb (byte b 0) 1 || is_zero b

-- a destination's three bytes: the first is 3, or it is at most 2 and the others are zero
abbrev pub destination_form : List ℕ → Bool
destination_form b = eqb (byte b 0) 3 || leb (byte b 0) 2 && is_zero (drop 1 b)

-- The form of the head: Enable In and IACK are 0 or 1, 5 to 10 are a response, 11 to 15 are zero.
-- Byte 3 is below 256 in whatever can be lent; of a list of numbers it has to be said.
unfoldable pub head_form : List ℕ → Bool
head_form b =
    ltb (byte b 3) 256 && leb (byte b 1) 1 && leb (byte b 2) 1 && response_form (take 6 (drop 5 b)) && is_zero (take 5 (drop 11 b))

-- The form of a chip record: 8 to 10 are a destination, 11 to 15 and 24 to 31 are zero.
unfoldable pub record_form : List ℕ → Bool
record_form r = destination_form (take 3 (drop 8 r)) && is_zero (take 5 (drop 11 r)) && is_zero (take 8 (drop 24 r))

-- each of the eight records
unfoldable pub records_form : List ℕ → Bool
records_form b = every 8 (λ i. record_form (drop (16 + 64 * i) b))

-- an image is 528 bytes long and of the form
unfoldable pub is_image : List ℕ → Bool
is_image b = eqb (length b) 528 && head_form b && records_form b
