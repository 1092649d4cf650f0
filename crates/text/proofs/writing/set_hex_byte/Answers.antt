-- `set_hex_byte` writes the two digits.
use Rattle.text.specs.laws.Digits.{wrote_byte_within}
use Rattle.text.proofs.writing.set_hex_byte.Goals as goal

pub returns : goal.returns
returns c = search wrote_byte_within
