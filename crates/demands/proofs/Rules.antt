-- What an accepted event and the two views give, proved.
-- Assumes nothing.
use Rattle.std.specs.Prelude.{Ok}
use mathlib.Core.Bool.{Bool, true, false}
use mathlib.Core.Path.{◌≡◌, refl, ap, sym, ◌∙◌}
use Prim.Native.Nat.{ℕ, ◌<◌}
use native.Mathlib.Omega.{arith}
use lib.Dec.{eqb}
use borrow.Author.Tests.{lt-leb}
use Rattle.bits.proofs.Below.{digit_lt}
use Rattle.bits.specs.Below.{digit}
use Rattle.search.proofs.Order.{candidate_lt}
use Rattle.refusal.proofs.Numbers.{accepted_is}
use Rattle.refusal.specs.Numbers.{is_accepted}
use Rattle.chip.specs.Status.{status_byte}
use Rattle.chip.specs.declared.Chip.{Chip}
use Rattle.decide.proofs.Passed.{passed_names}
use Rattle.decide.proofs.Rules.{changes}
use Rattle.decide.specs.Decided.{decided}
use Rattle.chain.proofs.Passed.{passed_sound, passed_tests}
use Rattle.refusal.specs.Answers.{handed}
use Rattle.views.specs.Views.{table_of, picture_of, no_table, no_picture, view_verdict, register_view, pin_view}
use Rattle.chain.specs.Apply.{decision, answer_of, changed, counted}
use Rattle.chain.specs.Events.{accepted, judged, event_of}
use Rattle.chain.specs.Seen.{seen_at, seen_by}
use Rattle.chain.specs.Fields.{chip_at}
use Rattle.chain.specs.Pins.{ei}
use Rattle.chain.specs.Refusals.{verdict_of}
use Rattle.chain.specs.Sound.{sound}
use Rattle.chain.specs.declared.Chain.{Chain}
use Rattle.event.specs.declared.Event.{Event}
use Rattle.event.specs.declared.Event.TheVariants.{Status}
use Rattle.chain.specs.declared.Outcome.{Outcome}
use Rattle.views.specs.declared.RegisterView.{RegisterView}
use Rattle.demands.specs.Along.{accepts}
use Rattle.demands.specs.Rules.{StatusBits, ByTheRules}
use Rattle.demands.proofs.Kept.{events_keep}

-- the verdict of an accepted event
verdict_accepted : (e : Event) (s : Chain) → accepts e s ≡ true → verdict_of e s ≡ Ok tt
verdict_accepted e s h = accepted_is (verdict_of e s) (sym (events_keep.zero_is_accepted e s) ∙ h)

by_its_rule : (e : Event) (s : Chain) → accepts e s ≡ true → event_of e s ≡ record { answer = answer_of e s; chain = counted (changed e s) }
unfolding event_of judged accepted changed
by_its_rule e s h = ap (λ v. judged v e s) (verdict_accepted e s h)

-- a view of a chip in the count of a sound chain is not refused
view_accepted : (s : Chain) (chip : ℕ) → sound s ≡ true → chip < s.count → view_verdict chip s ≡ Ok tt
view_accepted s chip e h = simp (e, lt-leb s.count chip h)

table_given : (s : Chain) (chip : ℕ) → sound s ≡ true → chip < s.count → register_view chip s ≡ record { verdict = (Ok tt); table = table_of chip s }
unfolding register_view
table_given s chip e h = simp (view_accepted s chip e h)

picture_given : (s : Chain) (chip : ℕ) → sound s ≡ true → chip < s.count → pin_view chip s ≡ record { verdict = (Ok tt); picture = picture_of chip s }
unfolding pin_view
picture_given s chip e h = simp (view_accepted s chip e h)

-- one that is refused shows nothing
pub no_table_lem : (s : Chain) (chip : ℕ) → is_accepted (register_view chip s).verdict ≡ false → (register_view chip s).table ≡ no_table
unfolding register_view
no_table_lem s chip off = simp off

pub no_picture_lem : (s : Chain) (chip : ℕ) → is_accepted (pin_view chip s).verdict ≡ false → (pin_view chip s).picture ≡ no_picture
unfolding pin_view
no_picture_lem s chip off = simp off

-- a digit read as a test
is_digit : (n : ℕ) (b : Bool) → n ≡ digit b → eqb n 1 ≡ b
is_digit n b is = search arith

pub byte_bits : (c : Chip) (ei : Bool) → StatusBits (status_byte c ei) c ei
byte_bits c ei = search (arith, candidate_lt, digit_lt, is_digit)

table_bits : (s : Chain) (chip : ℕ) → sound s ≡ true → chip < s.count → StatusBits (register_view chip s).table.status (chip_at s chip) (ei s chip)
table_bits s chip e h = search (arith, table_given, byte_bits)

-- a status read and the table take the same byte
read_byte : (s : Chain) (chip : ℕ) → accepts (Status chip) s ≡ true
    → (handed (event_of (Status chip) s).answer).byte ≡ (register_view chip s).table.status
unfolding changes decision decided seen_at
read_byte s chip h =
    let v : verdict_of (Status chip) s ≡ Ok tt = verdict_accepted (Status chip) s h in
    ap (λ (o : Outcome). (handed o.answer).byte) (by_its_rule (Status chip) s h)
    ∙ sym (ap (λ (r : RegisterView). r.table.status) (table_given s chip (passed_sound (Status chip) s v) (passed_names (Status chip) (seen_by (Status chip) s) refl (passed_tests (Status chip) s v))))

pub by_the_rules : ByTheRules
by_the_rules = search (arith, by_its_rule, table_given, picture_given, read_byte, table_bits)
