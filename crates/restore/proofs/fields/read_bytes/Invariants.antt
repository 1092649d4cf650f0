-- After k bytes the field is what they are, and the digits that are left.
use lib.ListN.{length}
use Rattle.restore.specs.laws.Hex.{Hexing}
use Rattle.restore.proofs.fields.read_bytes.Given as goal

abbrev pub invariant-loop-k : goal.invariant-loop-k
invariant-loop-k l = Hexing l.f l.out (length l.initial.out) l.k
