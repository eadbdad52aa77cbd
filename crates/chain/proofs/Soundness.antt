-- What a sound chain's record says of each of its parts, and of what an event sees of it.
-- Assumes nothing.
use Rattle.std.specs.Prelude.{Some}
use mathlib.Core.Bool.{Bool, true, ◌&&◌}
use mathlib.Core.Path.{◌≡◌, refl, ap, sym, ◌∙◌}
use Prim.Native.Nat.{ℕ, ◌≤◌, ◌<◌}
use lib.Dec.{leb, ltb}
use borrow.Author.Tests.{leb-true, ltb-true}
use Rattle.bits.proofs.Below.{either, both_left, both_right, every_each}
use Rattle.chip.specs.Sound.{chip_sound}
use Rattle.response.proofs.Soundness.{SoundReply, reply_parts}
use Rattle.response.specs.Sound.{response_sound}
use Rattle.response.specs.declared.Reply.{Reply}
use Rattle.decide.proofs.Soundness as seen
use Rattle.decide.specs.Sound.{seen_sound}
use Rattle.decide.specs.declared.Look.TheVariants.{Answering}
use Rattle.chain.specs.Fields.{chip_at}
use Rattle.chain.specs.Seen.{seen_at, seen_in, selected}
use Rattle.chain.specs.Sound.{chips_sound, sound}
use Rattle.chain.specs.declared.Chain.{Chain}

-- the parts of a sound chain
pub record SoundChain (s : Chain) : Type 0 where
  pub at_least_one : leb 1 s.count ≡ true
  pub at_most_eight : leb s.count 8 ≡ true
  pub chips : chips_sound s ≡ true
  pub response : response_sound s.count s.iack s.response ≡ true

pub parts : (s : Chain) → sound s ≡ true → SoundChain s
unfolding sound
parts s e =
    let counted = both_left (leb 1 s.count && leb s.count 8) _ (both_left _ (response_sound s.count s.iack s.response) e) in
    record {
      at_least_one = both_left (leb 1 s.count) _ counted;
      at_most_eight = both_right (leb 1 s.count) _ counted;
      chips = both_right (leb 1 s.count && leb s.count 8) _ (both_left _ (response_sound s.count s.iack s.response) e);
      response = both_right (leb 1 s.count && leb s.count 8 && chips_sound s) _ e;
    }

pub whole : (s : Chain) → SoundChain s → sound s ≡ true
unfolding sound
whole s p = simp (p.at_least_one, p.at_most_eight, p.chips, p.response)

pub count_le : (s : Chain) → sound s ≡ true → s.count ≤ 8
count_le s e = leb-true s.count 8 (parts s e).at_most_eight

pub chip_sound_lem : (s : Chain) (i : ℕ) → sound s ≡ true → i < s.count → chip_sound (chip_at s i) ≡ true
unfolding chips_sound
chip_sound_lem s i e h = every_each s.count (λ i. chip_sound (chip_at s i)) (parts s e).chips i h

-- what an event sees of it
pub seen_sound_lem : (s : Chain) (at : ℕ) (ei : Bool) → sound s ≡ true → seen_sound (seen_at at ei s) ≡ true
unfolding seen_sound seen_at
seen_sound_lem s at ei e =
    simp (either (λ (b : Bool). b ≡ true) (ltb at s.count) (chip_sound (chip_at s at)) true (λ h. chip_sound_lem s at e (ltb-true _ _ h)) (λ h. refl), (parts s e).response)

-- the response under way
pub under_way_parts : (s : Chain) (r : Reply) → sound s ≡ true → s.response ≡ Some r → SoundReply s.count r
under_way_parts s r e is = reply_parts s.count s.iack r (ap (response_sound s.count s.iack) (sym is) ∙ (parts s e).response)

-- and the response that a first pulse selects
pub selected-sound : (s : Chain) (r : Reply) → sound s ≡ true → selected s ≡ Some r → SoundReply s.count r
unfolding selected seen_at
selected-sound s r e is = (seen.selected-sound (seen_in Answering s) r (seen_sound_lem s _ _ e) is).0
