use Rattle.text.specs.laws.Each.{each}
use Rattle.text.proofs.writing.put_hex_front.Goals as goal

pub loop-byte-init : goal.loop-byte-init
loop-byte-init c = search each

pub loop-byte-preserved : goal.loop-byte-preserved
loop-byte-preserved c = search each

pub shape_of-out : goal.shape_of-out
shape_of-out c = search each

pub returns : goal.returns
returns c = search each
