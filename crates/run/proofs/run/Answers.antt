-- `run::run` meets its contract.
use Rattle.std.specs.Prelude.{Err}
use mathlib.Core.Path.{◌≡◌, refl, sym, ap, subst, ◌∙◌}
use Prim.Native.Nat.{ℕ, ◌<◌}
use lib.ListN.{length}
use borrow.Author.Rules.{rules}
use Rattle.refusal.specs.Numbers.{is_accepted}
use Rattle.image.proofs.OneToOne.{of_the_layout, read_back}
use Rattle.image.specs.OneToOne.{Whole}
use Rattle.image.specs.Reading.{chain_in, is_image}
use Rattle.run.proofs.Before.{refused_before}
use Rattle.run.proofs.Owned.{chips_whole}
use Rattle.run.specs.Run.{stopped, before_any, run_of}
use Rattle.run.proofs.run.Goals as goal

pub returns-in-Err : goal.returns-in-Err
unfolding before_any
returns-in-Err c =
    let ended = refused_before c.args.chain c.args.bytes.now c.args.limit c.args.results.now (Err c.in-Err.why) (sym c.in-Err.is ∙ c.before_any.ensures) refl in
    record {
      value = sym (ap (λ r. r.ran) ended);
      results_after = sym (ap (λ r. r.results) ended);
    }

pub run_in-reached-requires : goal.run_in-reached-requires
unfolding before_any
run_in-reached-requires c =
    let owned = c.well_formed.0.1.1.1.0 in
    let eight : length c.args.chain.chips ≡ 8 = search rules in
    let whole : Whole c.args.chain = record {
      eight_chips = eight;
      whole_chips = λ i h. chips_whole c.args.chain.chips owned.0 owned.1.1 i (subst (λ (n : ℕ). i < n) (sym eight) h);
    } in
    let same : chain_in c.put_chain.new.image ≡ c.args.chain = ap chain_in c.put_chain.ensures ∙ read_back c.args.chain whole in record {
      image_form = ap is_image c.put_chain.ensures ∙ of_the_layout c.args.chain whole;
      results_value = ap (λ s. is_accepted (before_any s c.args.bytes.now c.args.results.now)) same ∙ ap is_accepted (sym c.before_any.ensures ∙ c.in_default.is);
    }

pub returns : goal.returns
returns c =
    let owned = c.well_formed.0.1.1.1.0 in
    let eight : length c.args.chain.chips ≡ 8 = search rules in
    let whole : Whole c.args.chain = record {
      eight_chips = eight;
      whole_chips = λ i h. chips_whole c.args.chain.chips owned.0 owned.1.1 i (subst (λ (n : ℕ). i < n) (sym eight) h);
    } in
    let same : chain_in c.put_chain.new.image ≡ c.args.chain = ap chain_in c.put_chain.ensures ∙ read_back c.args.chain whole in
    let is : stopped c.run_in-reached.result.verdict c.run_in-reached.result.accepted (chain_in c.run_in-reached.new.image) c.run_in-reached.new.results ≡ run_of c.args.chain c.args.bytes.now c.args.limit c.args.results.now =
    c.run_in-reached.ensures.results_after ∙ ap (λ s. run_of s c.args.bytes.now c.args.limit c.args.results.now) same in
    record {
      value = ap (λ chain. record { verdict = c.run_in-reached.result.verdict; accepted = c.run_in-reached.result.accepted; chain = chain }) c.chain_in.ensures ∙ ap (λ r. r.ran) is;
      results_after = ap (λ r. r.results) is;
    }
