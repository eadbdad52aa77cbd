-- `messages::put_malformed` meets its contract.
use Rattle.text.proofs.Written.{all-written}
use Rattle.messages.specs.Messages.{malformed_parts, malformed_line}
use Rattle.messages.proofs.put_malformed.Goals as goal

pub returns : goal.returns
unfolding malformed_line
returns c = cc (all-written (c.args.to.now, c.args.at) (malformed_parts c.args.line c.args.expected c.args.found.now))
