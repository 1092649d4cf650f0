-- A store, then a mark.
use Rattle.records.proofs.writing.hold_value.Goals as goal

pub returns : goal.returns
returns c = cc
