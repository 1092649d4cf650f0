-- Both words are compared.
use Rattle.records.specs.Words.{word}
use Rattle.session.specs.laws.Session.{place_right}
use Rattle.session.proofs.place_right.Goals as goal

pub returns : goal.returns
unfolding word place_right
returns c = cc
