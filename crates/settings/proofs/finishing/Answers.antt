-- `finishing` asks for version 2.
use Rattle.settings.specs.Versions.{finishing}
use borrow.Author.Rules.{rules}
use Rattle.settings.proofs.finishing.Goals as goal

pub returns : goal.returns
unfolding finishing
returns c = search rules
