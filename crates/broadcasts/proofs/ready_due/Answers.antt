-- A value with ECHOs of weight W − ts, else one with READYs of weight ts + 1.
use Rattle.broadcasts.specs.laws.Cases.{due_cases}
use Rattle.broadcasts.proofs.ready_due.Goals as goal

pub returns-in-Some : goal.returns-in-Some
returns-in-Some c = search due_cases

pub returns-in-None : goal.returns-in-None
returns-in-None c = search due_cases
