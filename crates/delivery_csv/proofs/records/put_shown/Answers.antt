use Rattle.delivery_csv.specs.laws.RecordWriting.{shown_writes}
use Rattle.delivery_csv.proofs.records.put_shown.Goals as goal

pub returns-in-None : goal.returns-in-None
returns-in-None c = search shown_writes

pub returns-in-Some : goal.returns-in-Some
returns-in-Some c = search shown_writes
