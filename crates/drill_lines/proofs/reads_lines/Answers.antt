-- `reads_lines` states the theorem of specs/Theorem.antt.
use Rattle.drill_lines.specs.laws.Theorem.{reads_lines}
use Rattle.drill_lines.proofs.reads_lines.Goals as goal

pub returns : goal.returns
returns c = reads_lines
