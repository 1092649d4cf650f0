-- The lines of the first k bytes are written.
use Rattle.delivery_csv.specs.laws.RecordWriting.{Lining}
use Rattle.delivery_csv.proofs.records.write.Given as goal

abbrev pub invariant-loop-byte : goal.invariant-loop-byte
invariant-loop-byte l = Lining l.text l.initial.out l.out l.reader l.at l.byte-index
