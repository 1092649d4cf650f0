-- The theorem of specs/laws/Back.antt.
use Rattle.delivery_csv.specs.laws.Back.{there_and_back}
use Rattle.delivery_csv.proofs.there_and_back.Goals as goal

pub returns : goal.returns
returns c = there_and_back
