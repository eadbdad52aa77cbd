-- The third demand, proved: along a wait the counted pulses are at most the answers for others, and each of these brings the request nearer. It
-- starts at most seven places away.
-- Assumes nothing.
use mathlib.Core.Bool.{Bool, true, false, ◌&&◌}
use mathlib.Core.List.{List, [], ◌∷◌}
use mathlib.Core.Path.{◌≡◌, refl, ap}
use Prim.Native.Nat.{ℕ, ◌+◌, ◌≤◌, ◌<◌}
use native.Mathlib.Nat.{mod-lt}
use native.Mathlib.Omega.{arith}
use lib.Dec.{lit<}
use Rattle.bits.proofs.Below.{both_left}
use Rattle.bits.specs.Below.{digit}
use Rattle.search.proofs.Rotating.{place_of}
use Rattle.chain.specs.Events.{event_of}
use Rattle.chain.specs.Fields.{chip_at}
use Rattle.chain.specs.declared.Chain.{Chain}
use Rattle.event.specs.declared.Event.{Event}
use Rattle.event.specs.declared.Event.TheVariants.{Fall}
use Rattle.demands.specs.Along.{after, along}
use Rattle.demands.specs.Demand3.{Demand3}
use Rattle.demands.specs.Wait.{waits, resets, is_wait, Waited, is_first_pulse, answers_it, answers_another, others, reaches, is_counted, pulses}
use Rattle.demands.proofs.Kept.{events_keep}
use Rattle.demands.proofs.Needed.{needed}
use Rattle.demands.proofs.ResetEnds.{reset_ends}
use Rattle.demands.proofs.Wait.{pointer_at, first_pulse_parts, Nearer, wait_step, counted-answered}
use Rattle.demands.proofs.Worked.{worked, behind_others, refused_falls}

-- the first event of a wait, and the wait after it
record Begins (s : Chain) (i channel : ℕ) (e : Event) (es : List Event) : Type 0 where
  waiting : waits (chip_at s i) channel ≡ true
  no_reset : resets i e s ≡ false
  no_answer : answers_it i channel e s ≡ false
  then : Waited (event_of e s).chain i channel es

begins : (s : Chain) (i channel : ℕ) (e : Event) (es : List Event) → Waited s i channel (e ∷ es) → Begins s i channel e es
unfolding is_wait
begins s i channel e es w = search (arith, both_left, events_keep)

digit_le : (a b : Bool) → (a ≡ true → b ≡ true) → digit a ≤ digit b
digit_le a b implies = search arith

-- how far a wait has come: pulses, others, and the place of the request before and after it
record Come (s : Chain) (i channel : ℕ) (es : List Event) : Type 0 where
  pulses_le : pulses i s es ≤ others i channel s es
  others_le : others i channel s es + place_of (pointer_at (after s es) i) channel ≤ place_of (pointer_at s i) channel

come : (s : Chain) (i channel : ℕ) (es : List Event) → Waited s i channel es → Come s i channel es
unfolding after along
come s i channel [] w = record { pulses_le = omega arith; others_le = omega arith }
come s i channel (e ∷ es) w =
    let b : Begins s i channel e es = begins s i channel e es w in
    let rest : Come (event_of e s).chain i channel es = come (event_of e s).chain i channel es b.then in
    let near : Nearer i channel e s =
    wait_step e s i channel w.sound_chain w.in_the_count w.a_channel b.waiting b.no_reset b.no_answer in
    let one : digit (is_counted i e s) ≤ digit (answers_another i channel e s) =
    digit_le (is_counted i e s) (answers_another i channel e s)
    (λ counts. counted-answered e s i channel w.sound_chain w.in_the_count w.a_channel b.waiting counts b.no_answer) in
    let few = rest.pulses_le in
    let far = rest.others_le in
    record { pulses_le = omega (arith, one, few); others_le = omega (arith, near, far) }

-- the place of the request is one of eight
seven : (s : Chain) (i channel : ℕ) → place_of (pointer_at s i) channel < 8
seven s i channel = mod-lt _ (lit< tt)

-- a chain at the end of a wait
end : (s : Chain) (i channel : ℕ) (es : List Event) → Waited s i channel es → Waited (after s es) i channel []
unfolding after is_wait
end s i channel [] w = w
end s i channel (e ∷ es) w = end (event_of e s).chain i channel es (begins s i channel e es w).then

resets_none : (e : Event) (s : Chain) (i : ℕ) → e ≡ Fall → resets i e s ≡ false
resets_none e s i is = search arith

-- after seven counted pulses the request stands first: another counted one cannot be answered for another channel
eighth : (s : Chain) (i channel : ℕ) (es : List Event) → Waited s i channel es → 7 ≤ pulses i s es
    → (e : Event) → waits (chip_at (after s es) i) channel ≡ true → is_counted i e (after s es) ≡ true
    → answers_it i channel e (after s es) ≡ true
unfolding is_counted
eighth s i channel es w seventh e still counts = by (answers_it i channel e (after s es)) refl
  where
    t : Chain
    t = after s es

    by : (answers : Bool) → answers_it i channel e t ≡ answers → answers_it i channel e t ≡ true
    by true is = is
    by false is =
        let at : Waited t i channel [] = end s i channel es w in
        let fp : is_first_pulse e t ≡ true = both_left (is_first_pulse e t) _ (both_left (is_first_pulse e t && reaches i t) _ counts) in
        let another : answers_another i channel e t ≡ true =
        counted-answered e t i channel at.sound_chain at.in_the_count at.a_channel still counts is in
        let near : Nearer i channel e t =
        wait_step e t i channel at.sound_chain at.in_the_count at.a_channel still (resets_none e t i (first_pulse_parts e t fp).fall) is in
        let one : digit (answers_another i channel e t) ≡ 1 = ap digit another in
        let few = (come s i channel es w).pulses_le in
        let far = (come s i channel es w).others_le in
        let place = seven s i channel in
        absurd (omega (arith, near, one, few, far, place, seventh))

pub demand_3 : Demand3
demand_3 =
    record {
      at_most_seven = λ s i channel es w. let far = (come s i channel es w).others_le in let place = seven s i channel in omega (arith, far, place);
      no_eighth = λ s i channel es w.
          let few = (come s i channel es w).pulses_le in
          let far = (come s i channel es w).others_le in
          let place = seven s i channel in
          omega (arith, few, far, place);
      by_the_eighth = λ s i channel es w seventh. eighth s i channel es w (omega (arith, seventh));
      tight = worked;
      behind_others = behind_others;
      refused_falls = refused_falls;
      needed = needed;
      reset_ends = reset_ends;
    }
