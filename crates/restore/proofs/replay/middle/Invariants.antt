-- All lines together come to what the loop's own line and those after it come to.
use Prim.Native.Nat.{◌-◌}
use mathlib.Core.Path.{◌≡◌}
use lib.ListN.{length}
use Rattle.restore.specs.laws.Replaying.{Replaying}
use Rattle.restore.proofs.replay.middle.Given as goal

abbrev pub invariant-loop-end : goal.invariant-loop-end
invariant-loop-end l = (length l.copy ≡ length l.initial.copy) × Replaying l.journal l.at l.end l.next l.number l.copy

abbrev pub decreases-loop-end : goal.decreases-loop-end
decreases-loop-end l = length l.journal - l.end
