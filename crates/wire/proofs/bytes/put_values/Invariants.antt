-- `put_values` leaves the bytes of the values and then what was there: after k turns those of the first k.
use Prim.Native.Nat.{◌≤◌, ◌*◌}
use mathlib.Core.Path.{◌≡◌}
use mathlib.Core.List.{◌++◌}
use lib.ListN.{length, take, drop}
use Rattle.wire.specs.Bytes.{value_bytes}
use Rattle.wire.proofs.bytes.put_values.Given as goal

abbrev pub invariant-loop-k : goal.invariant-loop-k
invariant-loop-k l = (l.k ≤ length l.values) × (length l.out ≡ length l.initial.out) × (l.out ≡ value_bytes (take l.k l.values) ++ drop (8 * l.k) l.initial.out)
