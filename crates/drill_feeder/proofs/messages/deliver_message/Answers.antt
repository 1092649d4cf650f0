-- The part that is lent is the message, and the link is that of its sender.
use Rattle.drill_feeder.specs.laws.Cases.{message_lent}
use Rattle.drill_feeder.proofs.messages.deliver_message.Goals as goal

pub returns : goal.returns
returns c = search message_lent
