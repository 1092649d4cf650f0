-- After k steps the first k elements are copied.
use Rattle.records.specs.laws.Copy.{Copying}
use Rattle.records.proofs.copy_front.Given as goal

abbrev pub invariant-loop-k : goal.invariant-loop-k
invariant-loop-k l = Copying l.from l.initial.out l.out l.count l.k
