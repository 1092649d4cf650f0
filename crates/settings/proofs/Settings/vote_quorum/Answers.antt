-- `vote_quorum` is W − ta.
use borrow.Author.Rules.{rules}
use Rattle.settings.specs.Settings.{vote_quorum}
use Rattle.settings.proofs.Settings.vote_quorum.Goals as goal

pub returns : goal.returns
unfolding vote_quorum
returns c = search rules
