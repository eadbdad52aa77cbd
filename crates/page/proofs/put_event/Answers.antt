-- `page::put_event` meets its contract.
use Rattle.text.proofs.Written.{all-written}
use Rattle.page.specs.Page.{event_parts}
use Rattle.page.proofs.put_event.Goals as goal

pub returns : goal.returns
returns c = cc (all-written (c.args.to.now, c.args.at) (event_parts c.args.line c.args.step c.args.answer c.args.event))
