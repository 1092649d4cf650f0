-- `over` asks whether there are FINISHes.
use Rattle.votes.specs.laws.Cases.{befores}
use Rattle.votes.proofs.over.Goals as goal

pub returns-then-finishes : goal.returns-then-finishes
returns-then-finishes c = search befores

pub returns-else-finishes : goal.returns-else-finishes
returns-else-finishes c = rw c.if-finishes.false (search befores)
