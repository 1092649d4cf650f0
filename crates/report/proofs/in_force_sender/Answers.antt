-- Closed, or none.
use Rattle.report.specs.laws.Cases.{sender_cases}
use Rattle.report.proofs.in_force_sender.Goals as goal

pub returns-then-closed : goal.returns-then-closed
returns-then-closed c = search sender_cases

pub returns : goal.returns
returns c = search sender_cases
