-- `put8` leaves the eight bytes and then what was there.
use Rattle.std.proofs.Common.{ℕ, ◌/◌, ◌≡◌, ◌++◌, ◌∙◌, ap, drop, List, arith}
use Rattle.wire.specs.Bytes.{bytes2, bytes4, bytes8}
use Rattle.wire.proofs.bytes.put8.Goals as goal

pub returns : goal.returns
unfolding bytes2 bytes4 bytes8
returns c =
    let x : ℕ = c.args.x in
    let first : x / 4294967296 / 65536 / 256 ≡ x / 72057594037927936 = omega arith in
    let second : x / 4294967296 / 65536 ≡ x / 281474976710656 = omega arith in
    let third : x / 4294967296 / 256 ≡ x / 1099511627776 = omega arith in
    let fifth : x / 65536 / 256 ≡ x / 16777216 = omega arith in
    rw (first, second, third, fifth) (ap (λ (l : List ℕ). l ++ drop 8 c.args.out.now) (c.copy_from_slice.ensures.after ∙ c.to_be_bytes.ensures))
