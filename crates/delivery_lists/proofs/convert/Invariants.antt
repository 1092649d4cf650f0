-- The bytes that are held go into the buffer.
use Rattle.std.proofs.Common.{◌<◌}
use Rattle.delivery_lists.proofs.convert.Given as goal

abbrev pub invariant-loop : goal.invariant-loop
invariant-loop g l = l.s.held < 4096
