-- `put_text` writes byte by byte: after k turns the first k.
use Rattle.text.specs.laws.Paste.{Writing}
use Rattle.text.proofs.writing.put_text.Given as goal

abbrev pub invariant-loop-byte : goal.invariant-loop-byte
invariant-loop-byte l = Writing l.text l.initial.out l.at l.byte-index l.place l.out
