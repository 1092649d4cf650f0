-- `set_hex_bytes` writes byte by byte: after k turns the first k.
use Rattle.text.specs.laws.Digits.{Within}
use Rattle.text.proofs.writing.set_hex_bytes.Given as goal

abbrev pub invariant-loop-k : goal.invariant-loop-k
invariant-loop-k l = Within l.bytes l.initial.out l.at l.k l.out
