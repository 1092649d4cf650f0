-- `turn_table` states the theorem of specs/laws/Computed.antt.
use Rattle.turn_table.specs.laws.Computed.{turn_table}
use Rattle.turn_table.proofs.turn_table.Goals as goal

pub returns : goal.returns
returns c = turn_table
