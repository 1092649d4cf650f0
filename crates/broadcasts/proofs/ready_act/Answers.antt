-- The READY of an instance: not sent before, and a value is due.
use Rattle.broadcasts.specs.laws.Cases.{ready_cases}
use Rattle.broadcasts.proofs.ready_act.Goals as goal

pub returns-then-ready_sent : goal.returns-then-ready_sent
returns-then-ready_sent c = search ready_cases

pub returns-in-Some : goal.returns-in-Some
returns-in-Some c = search ready_cases

pub returns-in-None : goal.returns-in-None
returns-in-None c = search ready_cases
