use Rattle.std.proofs.Common.{ℕ, ◌+◌, ◌*◌, ◌/◌, ◌≤◌, ◌<◌, ◌≡◌, length, arith}
use Rattle.restore.specs.laws.Hex.{hexing}
use Rattle.restore.proofs.fields.read_bytes.Goals as goal

-- two digits more
two : (k n : ℕ) → k < n / 2 → 2 * k + 1 < n
two k n h = omega arith

pub loop-k-init : goal.loop-k-init
loop-k-init c = search hexing

pub returns-then-x-gt255 : goal.returns-then-x-gt255
returns-then-x-gt255 c = let l = two _ _ c.loop-k-test.true in search hexing

pub returns-then-out-k : goal.returns-then-out-k
returns-then-out-k c = let l = two _ _ c.loop-k-test.true in search hexing

pub loop-k-preserved : goal.loop-k-preserved
loop-k-preserved c = let l = two _ _ c.loop-k-test.true in search hexing

pub returns-then-count-f : goal.returns-then-count-f
returns-then-count-f c =
    let all : length c.args.f.now ≤ 2 * c.loop-k.k + 1 = omega (arith, c.loop-k-test.false) in
    let odd : 2 * c.loop-k.k < length c.args.f.now = omega (arith, c.loop-k.auto.k-end, c.if-count-f.true) in
    search hexing

pub returns : goal.returns
returns c =
    let all : length c.args.f.now ≤ 2 * c.loop-k.k = omega (arith, c.loop-k-test.false, c.if-count-f.false) in
    let count : c.loop-k.k ≡ length c.args.f.now / 2 = omega (arith, c.loop-k-test.false, c.loop-k.auto.k-end) in
    rw (← count) (search hexing)
