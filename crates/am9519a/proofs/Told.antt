-- What a start or a run is told decides what its call does.
-- Assumes nothing.
use mathlib.Core.Bool.{Bool, true, false, cond}
use mathlib.Core.List.{List}
use mathlib.Core.Path.{◌≡◌, refl, sym, ap, ◌∙◌}
use Prim.Native.Nat.{ℕ}
use Rattle.refusal.proofs.Numbers.{not_both}
use Rattle.refusal.specs.Numbers.{verdict_number, is_accepted}
use Rattle.refusal.specs.Numbers.{Verdict}
use Rattle.chain.proofs.Rules.{rules}
use Rattle.chain.specs.Fields.{zero_chain}
use Rattle.chain.specs.Sound.{sound}
use Rattle.run.proofs.Before.{before-sound, refused_before}
use Rattle.run.specs.Run.{Report, before_any, run_of}
use Rattle.image.specs.Layout.{image_of}
use Rattle.image.specs.Reading.{chain_in, is_image}
use Rattle.am9519a.specs.Calls.{chain_of, run_left, run_call}

-- what is no image has no sound chain, so nothing is run
pub sound_image : (image : List ℕ) → sound (chain_of image) ≡ true → is_image image ≡ true
unfolding rules
sound_image image is = by (is_image image) refl
  where
    by : (b : Bool) → is_image image ≡ b → is_image image ≡ true
    by true on = on
    by false off = not_both (ap (λ (b : Bool). sound (cond b (chain_in image) zero_chain)) (sym off) ∙ is)

-- what nothing refuses before any event is an image, and nothing refuses a run on its chain
pub run_ready : (image events results : List ℕ) (v : Verdict) → v ≡ before_any (chain_of image) events results → is_accepted v ≡ true →
    (is_image image ≡ true) × (is_accepted (before_any (chain_in image) events results) ≡ true)
run_ready image events results v is go =
    let ready : is_accepted (before_any (chain_of image) events results) ≡ true = ap is_accepted (sym is) ∙ go in
    let on : is_image image ≡ true = sound_image image (before-sound (chain_of image) events results ready) in
    (on, ap (λ (b : Bool). is_accepted (before_any (cond b (chain_in image) zero_chain) events results)) (sym on) ∙ ready)

pub run_refused : (image events : List ℕ) (limit : ℕ) (results : List ℕ) (accepted : ℕ) (v : Verdict) →
    v ≡ before_any (chain_of image) events results → is_accepted v ≡ false →
    run_call image events limit results accepted ≡ run_left (verdict_number v) image results accepted
unfolding run_call
run_refused image events limit results accepted v is off =
    simp (← is, off, refused_before (chain_of image) events limit results v is off)

pub run_done : (image events : List ℕ) (limit : ℕ) (results : List ℕ) (accepted : ℕ) (v : Verdict) →
    v ≡ before_any (chain_of image) events results → is_accepted v ≡ true →
    let r : Report = run_of (chain_in image) events limit results in
    run_call image events limit results accepted ≡ run_left (verdict_number r.ran.verdict) (image_of r.ran.chain) r.results r.ran.accepted
unfolding run_call
run_done image events limit results accepted v is go =
    let ready : (is_image image ≡ true) × (is_accepted (before_any (chain_in image) events results) ≡ true) = run_ready image events results v is go in
    simp (ready.0, ready.1)
