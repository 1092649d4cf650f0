-- A turn with 140 bytes or more, which acts or leaves all as it is.
use Rattle.restore.specs.laws.Turning.{turn_taken}
use Rattle.restore.proofs.lines.turn_line.Goals as goal

pub returns : goal.returns
returns c = search turn_taken
