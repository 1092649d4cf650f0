-- `put4` leaves the four bytes and then what was there.
use Rattle.std.proofs.Common.{ℕ, ◌/◌, ◌≡◌, ◌++◌, ◌∙◌, ap, drop, List, arith}
use Rattle.wire.specs.Bytes.{bytes2, bytes4}
use Rattle.wire.proofs.bytes.put4.Goals as goal

pub returns : goal.returns
unfolding bytes2 bytes4
returns c =
    let first : c.args.x / 65536 / 256 ≡ c.args.x / 16777216 = omega arith in
    rw first (ap (λ (l : List ℕ). l ++ drop 4 c.args.out.now) (c.copy_from_slice.ensures.after ∙ c.to_be_bytes.ensures))
