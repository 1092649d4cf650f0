use Rattle.delivery_csv.specs.laws.RecordWriting.{ends_written}
use Rattle.delivery_csv.proofs.records.put_end.Goals as goal

pub returns-then-untouched : goal.returns-then-untouched
returns-then-untouched c = search ends_written

pub returns : goal.returns
returns c = search ends_written
