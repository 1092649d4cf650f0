-- The first of the instances 1 to n.
use Rattle.std.proofs.Common.{rules}
use Rattle.broadcasts.specs.Broadcasts.{echo_act, echo_rule}
use Rattle.broadcasts.proofs.echo_rule.Goals as goal

pub returns : goal.returns
unfolding echo_rule
returns c = c.first_due.ensures (echo_act c.args.s.now) (λ i a l h p. search rules)
