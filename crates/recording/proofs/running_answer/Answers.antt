-- The refusals in their order.
use Rattle.recording.specs.laws.Cases.{running_cases}
use Rattle.recording.proofs.running_answer.Goals as goal

pub returns-then-closed : goal.returns-then-closed
returns-then-closed c = search running_cases

pub returns-then-not-recordable : goal.returns-then-not-recordable
returns-then-not-recordable c = search running_cases

pub returns : goal.returns
returns c = search running_cases
