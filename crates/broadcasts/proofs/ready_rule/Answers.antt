-- The first of the instances 1 to n.
use Rattle.std.proofs.Common.{rules}
use Rattle.broadcasts.specs.Broadcasts.{ready_act, ready_rule}
use Rattle.broadcasts.proofs.ready_rule.Goals as goal

pub returns : goal.returns
unfolding ready_rule
returns c = c.first_due.ensures (ready_act c.args.g c.args.s.now) (λ i a l h p. search rules)
