use Rattle.std.proofs.Common.{◌+◌, ◌-◌, ◌≡◌, arith}
use Rattle.quorum.specs.laws.Marking.{marking}
use Rattle.commits.specs.laws.Cases.{commit_cases}
use Rattle.commits.proofs.set_holders.Goals as goal

pub loop-k-init : goal.loop-k-init
loop-k-init c = search marking

pub overflow_mul-m : goal.overflow_mul-m
overflow_mul-m c = search marking

pub overflow_add-m : goal.overflow_add-m
overflow_add-m c = rw c.from.ensures (search marking)

pub loop-k-preserved : goal.loop-k-preserved
loop-k-preserved c =
    let k : c.loop-k.k - 1 + 1 ≡ c.loop-k.k = omega (arith, c.loop-k-test.true) in
    rw c.from.ensures (search (marking, rw k at c.holds_set.ensures))

pub returns : goal.returns
returns c = search (commit_cases, marking)
