-- `relay` is ta + 1.
use borrow.Author.Rules.{rules}
use Rattle.settings.specs.Settings.{relay}
use Rattle.settings.proofs.Settings.relay.Goals as goal

pub returns : goal.returns
unfolding relay
returns c = search rules
