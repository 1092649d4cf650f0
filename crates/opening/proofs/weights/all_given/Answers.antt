-- Each weight is asked.
use Rattle.std.proofs.Common.{rules}
use Rattle.quorum.proofs.laws.Asked.{every_asked}
use Rattle.opening.specs.Given.{weight_given}
use Rattle.opening.proofs.weights.all_given.Goals as goal

pub returns : goal.returns
returns c = every_asked (weight_given c.args.weights.now) c.all.result c.all.ensures.ran (λ k b f h. search rules)
