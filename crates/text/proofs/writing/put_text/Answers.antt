use Rattle.text.specs.laws.Paste.{writing}
use Rattle.text.proofs.writing.put_text.Goals as goal

pub loop-byte-init : goal.loop-byte-init
loop-byte-init c = search writing

pub loop-byte-preserved : goal.loop-byte-preserved
loop-byte-preserved c = search writing

pub shape_of-out : goal.shape_of-out
shape_of-out c = search writing

pub returns : goal.returns
returns c = search writing
