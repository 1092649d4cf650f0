use Rattle.std.proofs.Common.{arith}
use Rattle.wire.specs.Bytes.{be2}
use Rattle.wire.proofs.bytes.be2.Goals as goal

pub returns : goal.returns
unfolding be2
returns c = grind arith
