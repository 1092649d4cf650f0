-- `quorum` is W − ts.
use borrow.Author.Rules.{rules}
use Rattle.settings.specs.Settings.{quorum}
use Rattle.settings.proofs.Settings.quorum.Goals as goal

pub returns : goal.returns
unfolding quorum
returns c = search rules
