-- The accepted count that a run reports is the count of events before the limit, the end or the first refusal, and no more than were left.
-- Assumes nothing.
use mathlib.Core.Bool.{Bool, true, false, cond}
use mathlib.Core.List.{List}
use mathlib.Core.Path.{◌≡◌, sym, ◌∙◌}
use Prim.Native.Nat.{ℕ, zero, suc, ◌+◌, ◌≤◌}
use native.Mathlib.Nat.{add-zero}
use native.Mathlib.Omega.{arith}
use Rattle.refusal.specs.Numbers.{is_accepted}
use Rattle.refusal.specs.Answers.{verdict_in}
use Rattle.chain.specs.declared.Chain.{Chain}
use Rattle.chain.specs.declared.Outcome.{Outcome}
use Rattle.run.proofs.Steps.{run_through}
use Rattle.run.specs.List.{listed_at}
use Rattle.run.specs.Run.{listed_outcome, run_from, accepted_from}

pub accepted_count : (bytes : List ℕ) (left n : ℕ) (s : Chain) (results : List ℕ) → (run_from left bytes n s results).ran.accepted ≡ n + accepted_from left bytes n s
accepted_count bytes =
    run_through bytes (λ n s results r k. r.ran.accepted ≡ n + k)
    (λ n s results v. sym (add-zero n))
    (λ n s results r k on rest. rest ∙ omega arith)

one_or_none : (goes : Bool) (k left : ℕ) → k ≤ left → cond goes (k + 1) 0 ≤ suc left
one_or_none true k left h = omega arith
one_or_none false k left h = omega arith

pub no_more : (left : ℕ) (bytes : List ℕ) (n : ℕ) (s : Chain) → accepted_from left bytes n s ≤ left
unfolding accepted_from
no_more zero bytes n s = omega arith
no_more (suc left) bytes n s =
    let o : Outcome = listed_outcome (listed_at bytes n) s in
    one_or_none (is_accepted (verdict_in o.answer)) (accepted_from left bytes (n + 1) o.chain) left (no_more left bytes (n + 1) o.chain)
