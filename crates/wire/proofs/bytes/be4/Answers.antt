use Rattle.std.proofs.Common.{arith}
use Rattle.wire.specs.Bytes.{be2, be4}
use Rattle.wire.proofs.bytes.be4.Goals as goal

pub returns : goal.returns
unfolding be2 be4
returns c = grind arith
