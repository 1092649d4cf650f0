-- `only_encodings` states the theorem of proofs/Converse.antt.
use Rattle.wire_laws.proofs.Converse.{only_encodings}
use Rattle.wire_laws.proofs.only_encodings.Goals as goal

pub returns : goal.returns
returns c = only_encodings
