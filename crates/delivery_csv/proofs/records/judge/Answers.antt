use Rattle.std.proofs.Common.{rules}
use Rattle.delivery_csv.specs.laws.RecordLoop.{scannings}
use Rattle.delivery_csv.proofs.records.judge.Goals as goal

pub loop-byte-init : goal.loop-byte-init
loop-byte-init c = search (scannings, rules)

pub loop-byte-preserved : goal.loop-byte-preserved
loop-byte-preserved c = search (scannings, rules)

pub answer-requires : goal.answer-requires
answer-requires c = search (scannings, rules)

pub returns : goal.returns
returns c = search (scannings, rules)
