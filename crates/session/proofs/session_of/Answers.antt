-- The three numbers.
use Rattle.session.specs.Session.{session_with}
use Rattle.session.proofs.session_of.Goals as goal

pub returns : goal.returns
unfolding session_with
returns c = cc
