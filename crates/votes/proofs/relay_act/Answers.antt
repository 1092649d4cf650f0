-- `relay_act` looks at the rounds up to the last in rising order.
use Rattle.std.proofs.Common.{rules}
use Rattle.votes.specs.Votes.{relay_round}
use Rattle.votes.specs.laws.Cases.{relay_rounds}
use Rattle.votes.proofs.relay_act.Goals as goal

pub returns : goal.returns
returns c = relay_rounds _ _ _ _ _ _ c.round.ensures c.min-last.ensures (c.first_due.ensures (relay_round c.args.g c.args.s.now c.args.i) (λ r a l h p. search rules))
