-- `repeat` is ts + 1.
use borrow.Author.Rules.{rules}
use Rattle.settings.specs.Settings.{repeat}
use Rattle.settings.proofs.Settings.repeat.Goals as goal

pub returns : goal.returns
unfolding repeat
returns c = search rules
