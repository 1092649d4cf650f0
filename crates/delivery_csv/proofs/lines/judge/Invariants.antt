-- `judge` judges byte after byte: what is left comes to the answer for the whole.
use Rattle.delivery_csv.specs.laws.LineScan.{Judging}
use Rattle.delivery_csv.proofs.lines.judge.Given as goal

abbrev pub invariant-loop-k : goal.invariant-loop-k
invariant-loop-k l = Judging l.all l.text l.k l.x
