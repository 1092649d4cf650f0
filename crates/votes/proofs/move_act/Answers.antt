-- `move_act` waits for the own AUX and a known coin.
use Rattle.votes.specs.laws.Cases.{moves}
use Rattle.votes.proofs.move_act.Goals as goal

pub returns-then-aux_sent-coin_known : goal.returns-then-aux_sent-coin_known
returns-then-aux_sent-coin_known c = search moves

pub returns : goal.returns
returns c = search moves
