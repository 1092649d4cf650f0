-- `put_hex_front` writes byte by byte: after k turns the first k.
use Rattle.text.specs.Numbers.{byte_text}
use Rattle.text.specs.laws.Each.{Each}
use Rattle.text.proofs.writing.put_hex_front.Given as goal

abbrev pub invariant-loop-byte : goal.invariant-loop-byte
invariant-loop-byte l = Each byte_text l.bytes l.initial.out l.at l.byte-index l.place l.out
