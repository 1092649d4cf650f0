use Rattle.text.specs.laws.Digits.{within}
use Rattle.text.proofs.writing.set_hex_bytes.Goals as goal

pub loop-k-init : goal.loop-k-init
loop-k-init c = search within

pub set_hex_byte-requires : goal.set_hex_byte-requires
set_hex_byte-requires c = search within

pub loop-k-preserved : goal.loop-k-preserved
loop-k-preserved c = search within

pub shape_of-out : goal.shape_of-out
shape_of-out c = search within

pub returns : goal.returns
returns c = search within
