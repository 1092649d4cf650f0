-- `header_of` reads the fields of the definition.
use Rattle.wire.specs.Reading.{header_of}
use Rattle.wire.proofs.reading.header_of.Goals as goal

pub returns : goal.returns
unfolding header_of
returns c = cc
