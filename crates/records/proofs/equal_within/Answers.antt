use Rattle.quorum.specs.laws.Marking.{marking}
use Rattle.records.specs.laws.Words.{equal_inside}
use Rattle.records.proofs.equal_within.Goals as goal

pub loop-p-init : goal.loop-p-init
loop-p-init c = search marking

pub overflow_mul-m : goal.overflow_mul-m
overflow_mul-m c = search marking

pub overflow_add-m : goal.overflow_add-m
overflow_add-m c = rw c.from.ensures (search marking)

pub loop-p-preserved : goal.loop-p-preserved
loop-p-preserved c = rw c.from.ensures (search (marking, equal_inside))

pub returns : goal.returns
returns c = search marking
