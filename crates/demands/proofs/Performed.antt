-- Each event of a run is performed on the chain that those before it leave, and its two bytes stay in the results.
-- Assumes nothing.
use Rattle.std.specs.Prelude.{Ok}
use mathlib.Core.Bool.{Bool, true, false}
use mathlib.Core.List.{List}
use mathlib.Core.Path.{◌≡◌, refl, ap, sym, ◌∙◌, subst}
use Prim.Native.Nat.{ℕ, zero, suc, ◌+◌, ◌*◌, ◌≤◌, ◌<◌, min}
use native.Mathlib.Omega.{arith}
use lib.ListN.{get_or, length, length-set}
use lib.Seq.{get_or-set_same, get_or-set_other}
use Rattle.refusal.specs.Numbers.{is_accepted}
use Rattle.refusal.specs.Answers.{verdict_in, Handed, handed}
use Rattle.chain.specs.declared.Chain.{Chain}
use Rattle.run.proofs.Before.{before_room, refused_before, none_before}
use Rattle.run.proofs.Count.{accepted_count, no_more}
use Rattle.run.proofs.Steps.{goes_on, noted-length, run_through}
use Rattle.run.specs.List.{listed_at}
use Rattle.run.specs.Run.{Report, list_length, before_any, listed_outcome, noted, stopped, run_from, accepted_from, run_of}
use Rattle.demands.specs.Runs.{Performed}

-- an event's two bytes, and the other bytes of the results
pub noted_other : (n : ℕ) (h : Handed) (results : List ℕ) (i : ℕ) → (i ≡ 2 * n → ⊥) → (i ≡ 2 * n + 1 → ⊥) → get_or (noted n h results) i 0 ≡ get_or results i 0
noted_other n h results i first second = search (arith, get_or-set_other)

noted_drove : (n : ℕ) (h : Handed) (results : List ℕ) → 2 * (n + 1) ≤ length results → get_or (noted n h results) (2 * n) 0 ≡ h.drove
noted_drove n h results room = search (arith, get_or-set_other, get_or-set_same)

noted-byte : (n : ℕ) (h : Handed) (results : List ℕ) → 2 * (n + 1) ≤ length results → get_or (noted n h results) (2 * n + 1) 0 ≡ h.byte
noted-byte n h results room = search (arith, length-set, get_or-set_same)

pub none_left : (bytes : List ℕ) (n : ℕ) (s : Chain) (results : List ℕ) → run_from 0 bytes n s results ≡ stopped (Ok tt) n s results
unfolding run_from
none_left bytes n s results = refl

stays : (bytes : List ℕ) (n : ℕ) (s : Chain) (results : List ℕ) → (run_from 0 bytes n s results).ran.chain ≡ s
stays bytes n s results = ap (λ (r : Report). r.ran.chain) (none_left bytes n s results)

moved : (bytes : List ℕ) (m : ℕ) (b c b' c' : Chain) (results : List ℕ) → b' ≡ b → c' ≡ c → Performed bytes m b c results → Performed bytes m b' c' results
moved bytes m b c b' c' results eb ec p = search arith

-- what a run from the n-th event on leaves: the bytes of the events before, and each of its own events performed
record Leaves (bytes : List ℕ) (n : ℕ) (s : Chain) (results : List ℕ) (r : Report) (a : ℕ) : Type 0 where
  earlier : (i : ℕ) → i < 2 * n → get_or r.results i 0 ≡ get_or results i 0
  each : (k m : ℕ) → m ≡ n + k → k < a → 2 * (n + a) ≤ length results
      → Performed bytes m (run_from k bytes n s results).ran.chain (run_from (k + 1) bytes n s results).ran.chain r.results

module _ (bytes : List ℕ) (n : ℕ) (s : Chain) (results : List ℕ) (r : Report) (a : ℕ) where
  abbrev answer : Handed
  answer = handed (listed_outcome (listed_at bytes n) s).answer

  abbrev next : Chain
  next = (listed_outcome (listed_at bytes n) s).chain

  module _ (on : is_accepted (verdict_in (listed_outcome (listed_at bytes n) s).answer) ≡ true)
      (rest : Leaves bytes (n + 1) next (noted n answer results) r a)
    where
      -- after its first event a run goes on as from the next
      goes : (left k : ℕ) → left ≡ suc k → (run_from left bytes n s results).ran.chain ≡ (run_from k bytes (n + 1) next (noted n answer results)).ran.chain
      goes left k is = ap (λ (r : Report). r.ran.chain) (goes_on left k bytes n s results (listed_outcome (listed_at bytes n) s) is refl on)

      first : 2 * (n + (a + 1)) ≤ length results → Performed bytes n s next r.results
      first room =
          record {
            chain = refl;
            drove = rest.earlier (2 * n) (omega arith) ∙ noted_drove n answer results (omega arith);
            byte = rest.earlier (2 * n + 1) (omega arith) ∙ noted-byte n answer results (omega arith);
          }

      each_of : (k m : ℕ) → m ≡ n + k → k < a + 1 → 2 * (n + (a + 1)) ≤ length results
          → Performed bytes m (run_from k bytes n s results).ran.chain (run_from (k + 1) bytes n s results).ran.chain r.results
      each_of zero m is l room =
          let here : n ≡ m = omega (arith, is) in
          moved bytes m _ _ _ _ r.results (stays bytes n s results) (goes 1 0 refl ∙ stays bytes (n + 1) next (noted n answer results))
          (subst (λ (m : ℕ). Performed bytes m s next r.results) here (first room))
      each_of (suc k) m is l room =
          let long : length (noted n answer results) ≡ length results = noted-length n answer results in
          let enough : 2 * (n + 1 + a) ≤ length (noted n answer results) = omega (arith, long, room) in
          moved bytes m _ _ _ _ r.results (goes (suc k) k refl) (goes (suc k + 1) (k + 1) (omega arith))
          (rest.each k m (omega (arith, is)) (omega (arith, l)) enough)

from_leaves : (bytes : List ℕ) (left n : ℕ) (s : Chain) (results : List ℕ) → Leaves bytes n s results (run_from left bytes n s results) (accepted_from left bytes n s)
from_leaves bytes =
    run_through bytes (Leaves bytes)
    (λ n s results v. record { earlier = λ i l. refl; each = λ k m is l room. absurd (omega (arith, l)) })
    (λ n s results r a on rest. record {
      earlier = λ i l.
          rest.earlier i (omega arith)
          ∙ noted_other n (answer bytes n s results r a) results i (λ is. absurd (omega (arith, is))) (λ is. absurd (omega (arith, is)));
      each = each_of bytes n s results r a on rest;
    })

-- the whole run
pub performed : (s : Chain) (bytes : List ℕ) (limit : ℕ) (results : List ℕ) (n : ℕ) → n < (run_of s bytes limit results).ran.accepted
    → Performed bytes n (run_of s bytes n results).ran.chain (run_of s bytes (n + 1) results).ran.chain (run_of s bytes limit results).results
performed s bytes limit results n = by (is_accepted (before_any s bytes results)) refl
  where
    most : ℕ
    most = min limit (list_length bytes)

    listed : (k : ℕ) → is_accepted (before_any s bytes results) ≡ true → k ≤ list_length bytes → (run_of s bytes k results).ran.chain ≡ (run_from k bytes 0 s results).ran.chain
    listed k ok h =
        ap (λ (r : Report). r.ran.chain) (none_before s bytes k results (before_any s bytes results) refl ok)
        ∙ ap (λ (left : ℕ). (run_from left bytes 0 s results).ran.chain) (omega (arith, h))

    by : (ok : Bool) → is_accepted (before_any s bytes results) ≡ ok → n < (run_of s bytes limit results).ran.accepted
        → Performed bytes n (run_of s bytes n results).ran.chain (run_of s bytes (n + 1) results).ran.chain (run_of s bytes limit results).results
    by true ok =
        subst (λ (r : Report). n < r.ran.accepted → Performed bytes n (run_of s bytes n results).ran.chain (run_of s bytes (n + 1) results).ran.chain r.results)
        (sym (none_before s bytes limit results (before_any s bytes results) refl ok))
        (λ h.
        let count : (run_from most bytes 0 s results).ran.accepted ≡ 0 + accepted_from most bytes 0 s = accepted_count bytes most 0 s results in
        let few : accepted_from most bytes 0 s ≤ most = no_more most bytes 0 s in
        let room : 2 * list_length bytes ≤ length results = before_room s bytes results ok in
        moved bytes n _ _ _ _ (run_from most bytes 0 s results).results (listed n ok (omega (arith, h, count, few))) (listed (n + 1) ok (omega (arith, h, count, few)))
        ((from_leaves bytes most 0 s results).each n n (omega arith) (omega (arith, h, count)) (omega (arith, few, room))))
    by false off =
        subst (λ (r : Report). n < r.ran.accepted → Performed bytes n (run_of s bytes n results).ran.chain (run_of s bytes (n + 1) results).ran.chain r.results)
        (sym (refused_before s bytes limit results (before_any s bytes results) refl off))
        (λ h. absurd (omega (arith, h)))
