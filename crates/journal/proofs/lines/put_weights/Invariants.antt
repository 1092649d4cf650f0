-- `put_weights` writes weight by weight: after k turns the first k.
use Rattle.text.specs.laws.Each.{Each}
use Rattle.journal.specs.laws.Parts.{tab_decimal}
use Rattle.journal.proofs.lines.put_weights.Given as goal

abbrev pub invariant-loop-weight : goal.invariant-loop-weight
invariant-loop-weight l = Each tab_decimal l.weights l.initial.out l.at l.weight-index l.place l.out
