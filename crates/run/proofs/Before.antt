-- A run that takes none of 1, 10 and 11 has a sound chain, and room for every listed event; one of them ends it before any event.
-- Assumes nothing.
use mathlib.Core.Bool.{true, false, not}
use mathlib.Core.List.{List, [], ◌∷◌}
use mathlib.Core.Path.{◌≡◌}
use Prim.Native.Nat.{ℕ, ◌*◌, ◌%◌, ◌≤◌, min}
use lib.Dec.{eqb, ltb}
use lib.ListN.{length}
use borrow.Author.Tests.{not-false, ltb-false}
use Rattle.refusal.proofs.Numbers.{passed_first, passed_rest, accepted_is}
use Rattle.refusal.specs.Numbers.{is_accepted}
use Rattle.refusal.specs.declared.Refusal.TheVariants.{NotSound, BrokenEvent, ShortResults}
use Rattle.refusal.specs.Numbers.{Verdict}
use Rattle.chain.specs.Sound.{sound}
use Rattle.chain.specs.declared.Chain.{Chain}
use Rattle.run.specs.Run.{list_length, broken_event, short_results, before_any, stopped, run_from, run_of}

pub before-sound : (s : Chain) (bytes results : List ℕ) → is_accepted (before_any s bytes results) ≡ true → sound s ≡ true
unfolding before_any
before-sound s bytes results h =
    not-false (sound s) (passed_first (not (sound s)) NotSound (broken_event (length bytes) ∷ short_results (length bytes) (length results) ∷ []) (accepted_is _ h))

pub before_room : (s : Chain) (bytes results : List ℕ) → is_accepted (before_any s bytes results) ≡ true → 2 * list_length bytes ≤ length results
unfolding before_any
before_room s bytes results h =
    ltb-false _ _ (passed_first (ltb (length results) (2 * list_length bytes)) ShortResults []
    (passed_rest (not (eqb (length bytes % 4) 0)) BrokenEvent (short_results (length bytes) (length results) ∷ [])
    (passed_rest (not (sound s)) NotSound (broken_event (length bytes) ∷ short_results (length bytes) (length results) ∷ []) (accepted_is _ h))))

pub refused_before : (s : Chain) (bytes : List ℕ) (limit : ℕ) (results : List ℕ) (v : Verdict) → v ≡ before_any s bytes results
    → is_accepted v ≡ false
    → run_of s bytes limit results ≡ stopped v 0 s results
unfolding run_of
refused_before s bytes limit results v is off = simp (← is, off)

pub none_before : (s : Chain) (bytes : List ℕ) (limit : ℕ) (results : List ℕ) (v : Verdict) → v ≡ before_any s bytes results
    → is_accepted v ≡ true
    → run_of s bytes limit results ≡ run_from (min limit (list_length bytes)) bytes 0 s results
unfolding run_of
none_before s bytes limit results v is on = simp (← is, on)
