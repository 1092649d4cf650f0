-- The theorem of specs/laws/PartsEnded.antt.
use Rattle.delivery_csv.specs.laws.PartsEnded.{parts_ended}
use Rattle.delivery_csv.proofs.parts_ended.Goals as goal

pub returns : goal.returns
returns c = parts_ended
