-- The set of the sender.
use Rattle.report.specs.laws.Cases.{in_force_cases}
use Rattle.report.proofs.write_in_force.Goals as goal

pub write_set-requires : goal.write_set-requires
write_set-requires c = search in_force_cases

pub returns : goal.returns
returns c = search in_force_cases
