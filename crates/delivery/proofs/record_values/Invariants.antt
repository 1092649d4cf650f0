-- After k steps values 1 to k are stored.
use Rattle.records.specs.Layout.{commit_row_at}
use Rattle.records.specs.laws.Fill.{Storing}
use Rattle.wire.specs.Bytes.{value_at}
use Rattle.delivery.proofs.record_values.Given as goal

abbrev pub invariant-loop-j : goal.invariant-loop-j
invariant-loop-j l = Storing (value_at l.part) (commit_row_at l.p) l.count l.initial.s l.s l.j
