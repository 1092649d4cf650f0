use Rattle.std.proofs.Common.{ℕ, ◌≤◌, ◌<◌, ◌≡◌, arith}
use Rattle.restore.specs.laws.Filling.{filling}
use Rattle.restore.proofs.first.read_all.Goals as goal

within : (k room size : ℕ) → k < room → size ≡ room → k < size
within k room size l e = omega arith

ended : (k room size : ℕ) → room ≤ k → size ≡ room → size ≤ k
ended k room size l e = omega arith

pub loop-k-init : goal.loop-k-init
loop-k-init c = search filling

pub returns-then-not-store_field : goal.returns-then-not-store_field
returns-then-not-store_field c = let l = within _ _ _ c.loop-k-test.true c.loop-k.invariant.size in search filling

pub returns-then-e-line : goal.returns-then-e-line
returns-then-e-line c = let l = within _ _ _ c.loop-k-test.true c.loop-k.invariant.size in search filling

pub loop-k-preserved : goal.loop-k-preserved
loop-k-preserved c = let l = within _ _ _ c.loop-k-test.true c.loop-k.invariant.size in search filling

pub returns : goal.returns
returns c = let l = ended _ _ _ c.loop-k-test.false c.loop-k.invariant.size in search filling
