use Rattle.std.proofs.Common.{of_calls, arith, ◌+◌}
use Rattle.acts.specs.laws.First.{quiet_next, quiet_found, quiet_done}
use Rattle.acts.proofs.first_due.Goals as goal

pub returns-then-is_due : goal.returns-then-is_due
returns-then-is_due g c =
    λ f h. quiet_found f c.args.n c.loop-k.k c.step-a.result c.is_due.result (c.loop-k.invariant f h) (omega (arith, c.loop-k-test.true)) (h (c.loop-k.k + 1) c.step-a.result (omega arith) (omega (arith, c.loop-k-test.true)) (search of_calls)) c.is_due.ensures c.if-is_due.true

pub loop-k-preserved : goal.loop-k-preserved
loop-k-preserved g c =
    λ f h. quiet_next f c.args.n c.loop-k.k c.step-a.result c.is_due.result (c.loop-k.invariant f h) (omega (arith, c.loop-k-test.true)) (h (c.loop-k.k + 1) c.step-a.result (omega arith) (omega (arith, c.loop-k-test.true)) (search of_calls)) c.is_due.ensures c.if-is_due.false

pub returns : goal.returns
returns g c = λ f h. quiet_done f c.args.n c.loop-k.k (c.loop-k.invariant f h) (omega (arith, c.loop-k-test.false))
