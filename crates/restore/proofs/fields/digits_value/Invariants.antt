-- After k digits the rest is read on from the number that they make.
use Rattle.restore.specs.laws.Numbers.{Counting}
use Rattle.restore.proofs.fields.digits_value.Given as goal

abbrev pub invariant-loop-c : goal.invariant-loop-c
invariant-loop-c l = Counting l.base l.f l.c-index l.v
