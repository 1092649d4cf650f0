-- The stored count, at most 16.
use native.Mathlib.Omega.{arith}
use Rattle.records.specs.Records.{commit_count}
use Rattle.records.proofs.commit_count.Goals as goal

pub returns : goal.returns
unfolding commit_count
returns c = grind arith
