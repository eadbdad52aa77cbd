-- What is seen of a sound chain says of each of its parts, and of the response that a first pulse selects.
-- Assumes nothing.
use Rattle.std.specs.Prelude.{Some, None}
use mathlib.Core.Bool.{Bool, true, false, cond, true≢false}
use mathlib.Core.Path.{◌≡◌, refl, ap, sym, subst, ◌∙◌}
use Prim.Native.Nat.{◌<◌}
use lib.Dec.{ltb}
use borrow.Author.Tests.{lt-ltb, ltb-true}
use Rattle.bits.proofs.Below.{both_left, both_right}
use Rattle.chip.specs.Sound.{chip_sound}
use Rattle.response.proofs.Soundness.{SoundReply, reply_parts, reply_delivered, reply_of-sound, byte_left}
use Rattle.response.specs.Held.{reply_of, is_idle}
use Rattle.response.specs.Sound.{delivered_sound, response_sound}
use Rattle.response.specs.declared.Reply.{Reply}
use Rattle.response.specs.Held.{Response}
use Rattle.decide.specs.Pulse.{selected_by}
use Rattle.decide.specs.Sound.{seen_sound}
use Rattle.decide.specs.declared.Seen.{Seen}

pub seen_chip : (v : Seen) → seen_sound v ≡ true → v.at < v.count → chip_sound v.chip ≡ true
unfolding seen_sound
seen_chip v e h =
    ap (λ (within : Bool). cond within (chip_sound v.chip) true) (sym (lt-ltb v.at v.count h))
    ∙ both_left (cond (ltb v.at v.count) (chip_sound v.chip) true) _ e

pub seen_response : (v : Seen) → seen_sound v ≡ true → response_sound v.count v.iack v.response ≡ true
unfolding seen_sound
seen_response v e = both_right (cond (ltb v.at v.count) (chip_sound v.chip) true) _ e

-- the response under way; with IACK high it has a byte left
pub under_way : (v : Seen) (r : Reply) → seen_sound v ≡ true → v.response ≡ Some r → response_sound v.count v.iack (Some r) ≡ true
under_way v r e is = ap (response_sound v.count v.iack) (sym is) ∙ seen_response v e

pub under_way_parts : (v : Seen) (r : Reply) → seen_sound v ≡ true → v.response ≡ Some r → SoundReply v.count r
under_way_parts v r e is = reply_parts v.count v.iack r (under_way v r e is)

pub next_left : (v : Seen) (r : Reply) → seen_sound v ≡ true → v.iack ≡ true → v.response ≡ Some r → r.delivered < r.length
next_left v r e high is =
    byte_left r
    (ap (λ (iack : Bool). delivered_sound iack r) (sym high) ∙ reply_delivered v.count v.iack r (under_way v r e is))

abbrev reply_in : Reply → Response → Reply
reply_in other None = other
reply_in other (Some r) = r

-- a first pulse that selects a response selects that of a chip in the count, before its first byte
pub selected_is : (v : Seen) (r : Reply) → selected_by v ≡ Some r → (v.at < v.count) × (r ≡ reply_of v.at v.chip)
unfolding selected_by
selected_is v r e = by (ltb v.at v.count) refl e
  where
    by : (b : Bool) → ltb v.at v.count ≡ b → cond b (Some (reply_of v.at v.chip)) None ≡ Some r
        → (v.at < v.count) × (r ≡ reply_of v.at v.chip)
    by true t e = (ltb-true _ _ t, ap (reply_in r) (sym e))
    by false t e = absurd (true≢false (ap is_idle e))

pub selected-sound : (v : Seen) (r : Reply) → seen_sound v ≡ true → selected_by v ≡ Some r → (SoundReply v.count r) × (r.delivered ≡ 0)
selected-sound v r e is =
    let found = selected_is v r is in (
      subst (SoundReply v.count) (sym found.1) (reply_of-sound v.count _ _ (seen_chip v e found.0) found.0),
      ap (λ (r : Reply). r.delivered) found.1,
    )
