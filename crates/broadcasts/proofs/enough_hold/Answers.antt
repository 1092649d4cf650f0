-- The marks of equal words, among the marks held: all of them, or weighed at once.
use Rattle.broadcasts.specs.laws.Cases.{held_enough}
use Rattle.broadcasts.proofs.enough_hold.Goals as goal

pub returns-then-equal-held : goal.returns-then-equal-held
returns-then-equal-held c = search held_enough

pub returns : goal.returns
returns c = search held_enough
