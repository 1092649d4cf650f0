-- The marks of the word, by their weights.
use Rattle.coin_box.proofs.laws.Cases.{marks_weighed}
use Rattle.coin_box.proofs.requested.Goals as goal

pub returns : goal.returns
returns c = search marks_weighed
