-- With enough bytes for its line it is the turn without.
use Rattle.drill_feeder.specs.laws.Lined.{lined_cases}
use borrow.Author.Rules.{rules}
use Rattle.drill_feeder.proofs.calls.take_turn.Goals as goal

pub returns : goal.returns
returns c = record {
  answer = search (lined_cases, rules);
  words = search (lined_cases, rules);
  bytes = search (lined_cases, rules);
}
