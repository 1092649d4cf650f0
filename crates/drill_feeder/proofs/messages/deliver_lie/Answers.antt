-- The 20 bytes are the message.
use Rattle.drill_feeder.specs.laws.RunCases.{lie_delivered}
use Rattle.drill_feeder.proofs.messages.deliver_lie.Goals as goal

pub returns : goal.returns
returns c = search lie_delivered
