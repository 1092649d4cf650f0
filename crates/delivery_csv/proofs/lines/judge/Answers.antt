use Rattle.std.proofs.Common.{rules}
use Rattle.delivery_csv.specs.laws.LineScan.{judging}
use Rattle.delivery_csv.proofs.lines.judge.Goals as goal

pub loop-k-init : goal.loop-k-init
loop-k-init c = search (judging, rules)

pub loop-k-preserved : goal.loop-k-preserved
loop-k-preserved c = search (judging, rules)

pub answer-requires : goal.answer-requires
answer-requires c = search (judging, rules)

pub returns : goal.returns
returns c = search (judging, rules)
