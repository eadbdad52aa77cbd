-- What is decided keeps what is seen sound: the chip that it puts in a chip's place, and the response with the level of IACK.
-- Assumes nothing.
use Rattle.std.specs.Prelude.{Some, None, IfSome, Ok, Err}
use mathlib.Core.Bool.{Bool, true, false}
use mathlib.Core.Path.{◌≡◌, refl, ap, sym, subst, ◌∙◌}
use Prim.Native.Nat.{ℕ, ◌≤◌, ◌<◌}
use lib.Dec.{eqb}
use Rattle.event.specs.declared.Event.{Event}
use Rattle.event.specs.declared.Event.TheVariants.{Command, Data, Status, Read, Line, Enable, Fall, Rise}
use Rattle.figure4.proofs.Figure4.{row_fits_lem}
use Rattle.chip.proofs.Kept.{commanded_kept, written_kept, line_kept, answered_kept, finished_kept}
use Rattle.chip.specs.Command.{commanded}
use Rattle.figure4.specs.Figure4.{figure4}
use Rattle.chip.specs.Sound.{chip_sound}
use Rattle.chip.specs.declared.Chip.{Chip}
use Rattle.figure4.specs.Figure4.{Meaning}
use Rattle.response.proofs.Soundness.{reply_whole, reply_delivered, one_more_lem, still_left}
use Rattle.response.specs.Held.{ends_response}
use Rattle.response.specs.Sound.{delivered_sound, response_sound}
use Rattle.response.specs.declared.Reply.{Reply}
use Rattle.response.specs.Held.{Response}
use Rattle.decide.specs.Decided.{ending, decided}
use Rattle.decide.specs.Pulse.{selected_by, driving, first_pulse, fallen, risen_after, risen}
use Rattle.decide.specs.Change.{nothing, replacing}
use Rattle.decide.specs.Refusals.{verdict_on}
use Rattle.decide.specs.Sound.{seen_sound}
use Rattle.decide.specs.declared.Change.{Change}
use Rattle.decide.specs.declared.Seen.{Seen}
use Rattle.decide.proofs.Passed.{passed_names, passed_data, passed_fall, passed_rise}
use Rattle.decide.proofs.Rules.{changes}
use Rattle.decide.proofs.Soundness.{seen_chip, seen_response, under_way, under_way_parts, next_left, selected_is, selected-sound}

-- a change that leaves what is seen sound
pub record KeepsSound (v : Seen) (c : Change) : Type 0 where
  pub chip : IfSome c.replaced (λ replaced. chip_sound replaced.chip ≡ true)
  pub response : IfSome c.own (λ own. response_sound v.count own.iack own.response ≡ true)

commanded_chip : (meaning : Meaning) (code : ℕ) (c : Chip) → figure4 code ≡ meaning → chip_sound c ≡ true → chip_sound (commanded meaning code c) ≡ true
unfolding commanded
commanded_chip (Ok row) code c is e = commanded_kept row code c (row_fits_lem code row is) e
commanded_chip (Err kind) code c is e = e

-- a first pulse: IACK is low with the first byte of a response, or none
next : (r : Reply) → r.delivered ≡ 0 → 1 ≤ r.length → r.delivered < r.length
next r none one = rw none one

first_kept : (found : Response) (v : Seen) → selected_by v ≡ found → seen_sound v ≡ true → KeepsSound v (first_pulse found v)
unfolding changes driving first_pulse
first_kept None v is e = record { chip = tt; response = refl }
first_kept (Some r) v is e =
    let p = selected-sound v r e is in
    record {
      chip = answered_kept r.channel v.chip p.0.channel (seen_chip v e (selected_is v r is).0);
      response = one_more_lem v.count r p.0 (next r p.1 p.0.at_least_one);
    }

fall_kept : (response : Response) (v : Seen) → v.response ≡ response → v.iack ≡ true → seen_sound v ≡ true → KeepsSound v (fallen response v)
unfolding changes driving fallen
fall_kept None v is high e = first_kept (selected_by v) v refl e
fall_kept (Some r) v is high e =
    record { chip = tt; response = one_more_lem v.count r (under_way_parts v r e is) (next_left v r e high is) }

-- the end of a pulse: after the last byte the response ends, otherwise a byte is left
after_kept : (last : Bool) (r : Reply) (v : Seen) → eqb r.delivered r.length ≡ last → v.response ≡ Some r → v.iack ≡ false → v.at < v.count
    → seen_sound v ≡ true
    → KeepsSound v (risen_after last r v)
unfolding changes risen_after
after_kept true r v at is low h e = record { chip = finished_kept r.channel v.chip (seen_chip v e h); response = refl }
after_kept false r v at is low h e =
    record {
      chip = tt;
      response =
          reply_whole v.count true r (under_way_parts v r e is)
          (still_left r at (ap (λ (iack : Bool). delivered_sound iack r) (sym low) ∙ reply_delivered v.count v.iack r (under_way v r e is)));
    }

rise_kept : (response : Response) (v : Seen) → v.response ≡ response → v.iack ≡ false → ((r : Reply) → response ≡ Some r → v.at ≡ r.chip) → seen_sound v ≡ true
    → KeepsSound v (risen response v)
unfolding changes risen
rise_kept None v is low at e = record { chip = tt; response = refl }
rise_kept (Some r) v is low at e =
    after_kept (eqb r.delivered r.length) r v refl is low (subst (λ (n : ℕ). n < v.count) (sym (at r refl)) (under_way_parts v r e is).chip) e

-- a command keeps its chip sound, and a response that it ends is none
ending_kept : (ends : Bool) (v : Seen) (c : Chip) → chip_sound c ≡ true → KeepsSound v (ending ends v (replacing v.at c nothing))
unfolding changes
ending_kept true v c e = record { chip = e; response = refl }
ending_kept false v c e = record { chip = e; response = tt }

-- what is seen of the chip that responds
abbrev pub AtResponding : Seen → Type 0
AtResponding v = (r : Reply) → v.response ≡ Some r → v.at ≡ r.chip

pub decided_kept : (e : Event) (v : Seen) → verdict_on e v ≡ Ok tt → seen_sound v ≡ true → (e ≡ Rise → AtResponding v) → KeepsSound v (decided e v)
unfolding changes decided
decided_kept (Command i code) v ok here at =
    ending_kept (ends_response v.at code v.response) v _
    (commanded_chip (figure4 code) code v.chip refl (seen_chip v here (passed_names (Command i code) v refl ok)))
decided_kept (Data i byte) v ok here at =
    record {
      chip = written_kept byte v.chip (passed_data i byte v ok) (seen_chip v here (passed_names (Data i byte) v refl ok));
      response = tt;
    }
decided_kept (Status i) v ok here at = record { chip = tt; response = tt }
decided_kept (Read i) v ok here at = record { chip = tt; response = tt }
decided_kept (Line i channel level) v ok here at =
    record {
      chip = line_kept channel (eqb level 1) v.chip (seen_chip v here (passed_names (Line i channel level) v refl ok));
      response = tt;
    }
decided_kept (Enable level) v ok here at = record { chip = tt; response = seen_response v here }
decided_kept Fall v ok here at = fall_kept v.response v refl (passed_fall v ok) here
decided_kept Rise v ok here at = rise_kept v.response v refl (passed_rise v ok) (at refl) here
