-- A reset ends a wait: it disarms the chip.
-- Assumes nothing.
use native.Mathlib.Omega.{arith}
use Rattle.std.specs.Prelude.{Ok, Some}
use mathlib.Core.Bool.{Bool, true, false, ◌&&◌}
use mathlib.Core.Path.{◌≡◌, refl, ap, ◌∙◌}
use Prim.Native.Nat.{ℕ}
use lib.Dec.{eqb}
use borrow.Author.Tests.{eqb-true}
use Rattle.bits.proofs.Below.{either, both_left, both_right}
use Rattle.refusal.proofs.Numbers.{accepted_is}
use Rattle.event.specs.declared.Event.{Event}
use Rattle.event.specs.declared.Event.TheVariants.{Command}
use Rattle.figure4.specs.Figure4.{figure4, is_reset}
use Rattle.chip.proofs.Rules.{chip_rules}
use Rattle.chip.specs.Command.{commanded}
use Rattle.chip.specs.Status.{is_armed}
use Rattle.chip.specs.declared.Chip.{Chip}
use Rattle.response.specs.Held.{ends_response}
use Rattle.decide.proofs.Rules.{changes}
use Rattle.decide.specs.Decided.{decided}
use Rattle.decide.specs.declared.Change.{Change}
use Rattle.chain.proofs.Rules.{chain_fields}
use Rattle.chain.specs.Apply.{applied, decision, counted}
use Rattle.chain.specs.Events.{accepted, judged, event_of}
use Rattle.chain.specs.Fields.{chip_at}
use Rattle.chain.specs.Refusals.{verdict_of}
use Rattle.chain.specs.Seen.{seen_at}
use Rattle.chain.specs.declared.Chain.{Chain}
use Rattle.demands.specs.Wait.{waits, is_reset_of, resets}
use Rattle.demands.proofs.Kept.{applied_there}
use Rattle.demands.proofs.Wait.{put_there}

-- a chip is disarmed by its reset
reset_disarms : (c : Chip) (channel : ℕ) → waits (commanded (figure4 0) 0 c) channel ≡ false
unfolding chip_rules
reset_disarms c channel = refl

disarmed_waits : (c : Chip) (channel : ℕ) → is_armed c ≡ false → waits c channel ≡ false
disarmed_waits c channel off = simp off

reset_done : (s : Chain) (i channel : ℕ) → waits (chip_at (applied (decision (Command i 0) s) s) i) channel ≡ false
unfolding changes decided decision seen_at
reset_done s i channel = by (is_armed (chip_at s i)) refl
  where
    c : Change
    c = decision (Command i 0) s

    new : Chip
    new = commanded (figure4 0) 0 (chip_at s i)

    put : c.replaced ≡ Some (record { at = i; chip = new })
    put = either (λ (c : Change). c.replaced ≡ Some (record { at = i; chip = new })) (ends_response i 0 s.response) _ _ (λ ends. refl) (λ none. refl)

    by : (armed : Bool) → is_armed (chip_at s i) ≡ armed → waits (chip_at (applied c s) i) channel ≡ false
    by true is = ap (λ (c : Chip). waits c channel) (put_there c s i new put is) ∙ reset_disarms (chip_at s i) channel
    by false is =
        applied_there (λ (c : Chip). waits c channel ≡ false) c s i (rw put (λ at. reset_disarms (chip_at s i) channel)) (disarmed_waits (chip_at s i) channel is)

reset_there : (s : Chain) (i channel j code : ℕ) → resets i (Command j code) s ≡ true → waits (chip_at (event_of (Command j code) s).chain i) channel ≡ false
unfolding event_of judged accepted chain_fields counted
reset_there s i channel j code r =
    let reset : eqb j i && is_reset code ≡ true = both_left (is_reset_of i (Command j code)) _ r in
    let at : j ≡ i = eqb-true j i (both_left (eqb j i) _ reset) in
    let zero : code ≡ 0 = eqb-true code 0 (both_right (eqb j i) _ reset) in
    let ok : verdict_of (Command j code) s ≡ Ok tt = accepted_is _ (both_right (is_reset_of i (Command j code)) _ r) in
    rw ok (rw at (rw zero (reset_done s i channel)))

pub reset_ends : (e : Event) (s : Chain) (i channel : ℕ) → resets i e s ≡ true → waits (chip_at (event_of e s).chain i) channel ≡ false
reset_ends e s i channel r = search (arith, reset_there)
