-- `version_known` asks for 1 or 2.
use Rattle.settings.specs.Versions.{version_known}
use borrow.Author.Rules.{rules}
use Rattle.settings.proofs.version_known.Goals as goal

pub returns : goal.returns
unfolding version_known
returns c = search rules
