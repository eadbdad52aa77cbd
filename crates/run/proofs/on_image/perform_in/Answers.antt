-- `run::on_image::perform_in` meets its contract.
use Rattle.std.specs.Prelude.{Ok}
use mathlib.Core.Bool.{true, false}
use mathlib.Core.List.{List}
use mathlib.Core.Path.{◌≡◌, refl, sym, ap, ap₂, ◌∙◌}
use Prim.Native.Nat.{ℕ, ◌+◌, ◌-◌}
use native.Mathlib.Nat.{sub-zero}
use native.Mathlib.Omega.{arith}
use lib.ListN.{length}
use Rattle.refusal.specs.Numbers.{is_accepted}
use Rattle.refusal.specs.Numbers.{Verdict}
use Rattle.refusal.specs.Answers.{verdict_in, handed}
use Rattle.chain.specs.Sound.{sound}
use Rattle.chain.specs.declared.Chain.{Chain}
use Rattle.chain.specs.declared.Outcome.{Outcome}
use Rattle.image.proofs.OneToOne.{image_length}
use Rattle.image.specs.Reading.{chain_in}
use Rattle.run.proofs.Steps.{stops, goes_on, noted-length, step_sound, step_same}
use Rattle.run.specs.List.{listed_at}
use Rattle.run.specs.Run.{noted, run_from, stopped, listed_outcome}
use Rattle.run.proofs.on_image.perform_in.Goals as goal

pub returns-in-Err-clause-results_after : goal.returns-in-Err-clause-results_after
returns-in-Err-clause-results_after c =
    let bytes : List ℕ = c.args.bytes.now in
    let n : ℕ = c.loop-n.n in
    let s : Chain = chain_in c.loop-n.image in
    let o : Outcome = listed_outcome (listed_at bytes n) s in
    let answered : c.step_in-answer.result ≡ o.answer = c.step_in-answer.ensures.value ∙ ap (λ l. (listed_outcome l s).answer) c.listed_at.ensures in
    let left : chain_in c.step_in-answer.new.image ≡ o.chain = c.step_in-answer.ensures.chain_after ∙ ap (λ l. (listed_outcome l s).chain) c.listed_at.ensures in
    let off : is_accepted (verdict_in o.answer) ≡ false = ap (λ a. is_accepted (verdict_in a)) (sym answered ∙ c.in-Err.is) in
    let ended : run_from c.args.count bytes 0 (chain_in c.args.image.now) c.args.results.now ≡ stopped (verdict_in o.answer) n s c.loop-n.results =
    c.loop-n.invariant.4 ∙ stops (c.args.count - n) (c.args.count - (n + 1)) bytes n s c.loop-n.results o (omega arith) refl off in
    ap₂ (λ v t. stopped v n t c.loop-n.results) (ap verdict_in (sym c.in-Err.is ∙ answered)) (left ∙ step_same (listed_at bytes n) s off) ∙ sym ended

pub loop-n-preserved : goal.loop-n-preserved
loop-n-preserved c =
    let bytes : List ℕ = c.args.bytes.now in
    let n : ℕ = c.loop-n.n in
    let s : Chain = chain_in c.loop-n.image in
    let o : Outcome = listed_outcome (listed_at bytes n) s in
    let answered : c.step_in-answer.result ≡ o.answer = c.step_in-answer.ensures.value ∙ ap (λ l. (listed_outcome l s).answer) c.listed_at.ensures in
    let left : chain_in c.step_in-answer.new.image ≡ o.chain = c.step_in-answer.ensures.chain_after ∙ ap (λ l. (listed_outcome l s).chain) c.listed_at.ensures in
    let on : is_accepted (verdict_in o.answer) ≡ true = ap (λ a. is_accepted (verdict_in a)) (sym answered ∙ c.in-Ok.is) in
    let noted_here : noted n (handed o.answer) c.loop-n.results ≡ c.note.new.results = ap (λ a. noted n (handed a) c.loop-n.results) (sym answered) ∙ sym c.note.ensures in (
      omega arith,
      c.step_in-answer.ensures.form_after,
      ap sound left ∙ step_sound (listed_at bytes n) s c.loop-n.invariant.2,
      ap length (sym noted_here) ∙ noted-length n (handed o.answer) c.loop-n.results ∙ c.loop-n.invariant.3,
      c.loop-n.invariant.4
          ∙ goes_on (c.args.count - n) (c.args.count - (n + 1)) bytes n s c.loop-n.results o (omega arith) refl on
          ∙ ap₂ (run_from (c.args.count - (n + 1)) bytes (n + 1)) (sym left) noted_here,
    )

pub returns-clause-results_after : goal.returns-clause-results_after
unfolding run_from
returns-clause-results_after c =
    let none_left : c.args.count - c.loop-n.n ≡ 0 = omega arith in
    let at-end : c.loop-n.n ≡ c.args.count = omega arith in
    let ended : run_from c.args.count c.args.bytes.now 0 (chain_in c.args.image.now) c.args.results.now ≡ stopped (Ok tt) c.args.count (chain_in c.loop-n.image) c.loop-n.results =
    c.loop-n.invariant.4
    ∙ ap (λ left. run_from left c.args.bytes.now c.loop-n.n (chain_in c.loop-n.image) c.loop-n.results) none_left
    ∙ ap (λ n. stopped (Ok tt) n (chain_in c.loop-n.image) c.loop-n.results) at-end in
    sym ended
