use Rattle.std.proofs.Common.{◌≡◌, max, length, sym, ◌∙◌, arith}
use Rattle.restore.specs.laws.Places.{seeking, seeking_end}
use Rattle.restore.proofs.reader.place_of.Goals as goal

pub loop-k-init : goal.loop-k-init
loop-k-init c = (search seeking, omega arith)

pub returns-then-b-k : goal.returns-then-b-k
returns-then-b-k c = search seeking

pub loop-k-preserved : goal.loop-k-preserved
loop-k-preserved c = (search seeking, omega arith)

pub returns : goal.returns
returns c =
    let end : c.loop-k.k ≡ max c.args.at (length c.args.b.now) = omega (arith, c.loop-k.invariant.1) in
    c.max.ensures ∙ sym end ∙ seeking_end _ _ _ _ c.loop-k.invariant.0 c.loop-k-test.false
