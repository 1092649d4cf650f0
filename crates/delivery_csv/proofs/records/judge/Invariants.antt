-- The bytes from place k on are left.
use Rattle.delivery_csv.specs.laws.RecordLoop.{Scanning}
use Rattle.delivery_csv.proofs.records.judge.Given as goal

abbrev pub invariant-loop-byte : goal.invariant-loop-byte
invariant-loop-byte l = Scanning l.text l.all l.x l.byte-index
