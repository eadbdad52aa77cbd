-- The sentences tried, by computation: each number has that of its own refusal, as its first words tell.
-- Assumes nothing.
use mathlib.Core.Bool.{Bool, true}
use mathlib.Core.Path.{◌≡◌, refl}
use Prim.Native.Nat.{ℕ}
use Prim.Native.String.{String}
use Rattle.text.specs.Words.{line_end, begins}
use Rattle.text.specs.Written.{text}
use Rattle.refusal.specs.Numbers.{refusal_number}
use Rattle.refusal.specs.Sentences.{meaning_of}
use Rattle.refusal.specs.declared.Refusal.{Refusal}
use Rattle.refusal.specs.declared.Refusal.TheVariants.{NotSound, NoSuchChip, NoSuchChannel, NoSuchLevel, PulseUnderWay, IackThereAlready, UndefinedCommand, NoDestination, PastItsCount, BrokenEvent, ShortResults, UnknownKind}

abbrev says : ℕ → String → Bool
says number words = begins (text words) (meaning_of number)

abbrev tells : Refusal → String → Bool
tells why words = says (refusal_number why) words

in_a_list :
    (tells NotSound "not a sound chain" ≡ true)
    × (tells NoSuchChip "no such chip" ≡ true)
    × (tells NoSuchChannel "no such channel" ≡ true)
    × (tells NoSuchLevel "no such level" ≡ true)
    × (tells PulseUnderWay "IACK is low" ≡ true)
    × (tells IackThereAlready "IACK is at that level already" ≡ true)
    × (tells UndefinedCommand "undefined command" ≡ true)
    × (tells NoDestination "no destination" ≡ true)
    × (tells PastItsCount "the level has all the bytes of its count" ≡ true)
unfolding meaning_of line_end
in_a_list = (refl, refl, refl, refl, refl, refl, refl, refl, refl)

from_c :
    (says 0 "accepted" ≡ true)
    × (tells BrokenEvent "the length of the events is no multiple of four" ≡ true)
    × (tells ShortResults "the buffer is too short" ≡ true)
    × (tells UnknownKind "no such kind of event" ≡ true)
    × (says 13 "no number of a refusal" ≡ true)
    × (says 255 "no number of a refusal" ≡ true)
unfolding meaning_of line_end
from_c = (refl, refl, refl, refl, refl, refl)
