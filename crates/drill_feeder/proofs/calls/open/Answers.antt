-- With enough bytes for its line it is the opening without.
use Rattle.drill_feeder.specs.laws.Lined.{lined_cases}
use borrow.Author.Rules.{rules}
use Rattle.drill_feeder.proofs.calls.open.Goals as goal

pub returns : goal.returns
returns c = search (lined_cases, rules)
