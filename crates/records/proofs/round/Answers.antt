-- The stored round, at most 33.
use native.Mathlib.Omega.{arith}
use Rattle.records.specs.Records.{round}
use Rattle.records.proofs.round.Goals as goal

pub returns : goal.returns
unfolding round
returns c = grind arith
