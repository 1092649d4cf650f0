-- `write` writes byte after byte: what is left completes the whole.
use Rattle.delivery_csv.specs.laws.LineScan.{Putting}
use Rattle.delivery_csv.proofs.lines.write.Given as goal

abbrev pub invariant-loop-k : goal.invariant-loop-k
invariant-loop-k l = Putting l.text l.initial.reader l.initial.at l.initial.out l.k l.reader l.at l.out
