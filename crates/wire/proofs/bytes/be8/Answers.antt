-- Eight bytes, the first of the highest worth.
use Rattle.std.proofs.Common.{ℕ, ◌+◌, ◌≡◌, arith}
use Rattle.wire.specs.Bytes.{be2, be4, be8}
use Rattle.wire.proofs.bytes.be8.Goals as goal

pub returns : goal.returns
unfolding be2 be4 be8
returns c =
    let at : ℕ = c.args.at in
    let three : at + 2 + 1 ≡ at + 3 = omega arith in
    let five : at + 4 + 1 ≡ at + 5 = omega arith in
    let six : at + 4 + 2 ≡ at + 6 = omega arith in
    let seven : at + 6 + 1 ≡ at + 7 = omega arith in
    rw (three, five, six, seven) (omega (arith, c.from_be_bytes.ensures))
