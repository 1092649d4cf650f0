-- `accept` is 2·ta + 1.
use borrow.Author.Rules.{rules}
use Rattle.settings.specs.Settings.{accept}
use Rattle.settings.proofs.Settings.accept.Goals as goal

pub returns : goal.returns
unfolding accept
returns c = search rules
