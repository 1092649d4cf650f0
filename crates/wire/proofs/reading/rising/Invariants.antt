-- `rising` is the test of the definition: after k turns the first k + 1 values rise.
use Rattle.wire.proofs.Laws.{Rising}
use Rattle.wire.proofs.reading.rising.Given as goal

abbrev pub invariant-loop-k : goal.invariant-loop-k
invariant-loop-k l = Rising l.part l.count l.last l.k
