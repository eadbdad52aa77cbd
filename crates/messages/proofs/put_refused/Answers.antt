-- `messages::put_refused` meets its contract.
use Rattle.refusal.specs.Numbers.{refusal_number}
use Rattle.text.proofs.Written.{all-written}
use Rattle.messages.specs.Messages.{refused_parts, refused_line}
use Rattle.messages.proofs.put_refused.Goals as goal

pub returns : goal.returns
unfolding refused_line
returns c = cc (all-written (c.args.to.now, c.args.at) (refused_parts c.args.line c.args.step (refusal_number c.args.why)))
