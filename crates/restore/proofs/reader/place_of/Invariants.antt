-- The loop has met no such byte before the place that it has come to.
use Rattle.std.proofs.Common.{◌≤◌, max, length}
use Rattle.restore.specs.laws.Places.{Seeking}
use Rattle.restore.proofs.reader.place_of.Given as goal

abbrev pub invariant-loop-k : goal.invariant-loop-k
invariant-loop-k l = Seeking l.byte l.b l.at l.k × (l.k ≤ max l.at (length l.b))
