-- `round_act` takes the AUX before the move.
use Rattle.votes.specs.laws.Cases.{rounds}
use Rattle.votes.proofs.round_act.Goals as goal

pub returns-then-is_due : goal.returns-then-is_due
returns-then-is_due c = search rounds

pub returns-then-running : goal.returns-then-running
returns-then-running c = search rounds

pub returns : goal.returns
returns c = search rounds
