-- `move_value` asks for AUXs of weight W − ta with accepted values.
use Rattle.votes.specs.laws.Cases.{moves}
use Rattle.votes.proofs.move_value.Goals as goal

pub returns-then-vote_quorum-carriers : goal.returns-then-vote_quorum-carriers
returns-then-vote_quorum-carriers c = search moves

pub returns : goal.returns
returns c = search moves
