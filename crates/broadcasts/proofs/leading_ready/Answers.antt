-- The READYs of an instance stand at their own marks and values; where too few are held nobody leads.
use Rattle.records.specs.Records.{ready_held, ready_value}
use Rattle.broadcasts.specs.laws.Leading.{held_count}
use Rattle.broadcasts.specs.laws.Cases.{leading_few, leading_counted}
use Rattle.broadcasts.proofs.leading_ready.Goals as goal

pub returns-then-held_count-q : goal.returns-then-held_count-q
unfolding held_count ready_held ready_value
returns-then-held_count-q c = search leading_few

pub returns : goal.returns
unfolding ready_held ready_value
returns c = search leading_counted
