use Rattle.delivery_csv.specs.laws.RecordWriting.{linings}
use Rattle.delivery_csv.proofs.records.write.Goals as goal

pub loop-byte-init : goal.loop-byte-init
loop-byte-init c = search linings

pub loop-byte-preserved : goal.loop-byte-preserved
loop-byte-preserved c = search linings

pub returns : goal.returns
returns c = search linings
