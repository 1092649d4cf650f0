-- The marks of a word, counted at once.
use Rattle.broadcasts.specs.laws.Cases.{held_counted}
use Rattle.broadcasts.proofs.held_count.Goals as goal

pub returns : goal.returns
returns c = search held_counted
