-- By the outcomes.
use Rattle.restore.specs.laws.Turning.{outcome_cases}
use Rattle.restore.proofs.lines.by_outcome.Goals as goal

pub returns-in_default : goal.returns-in_default
returns-in_default c = search outcome_cases

pub returns-in-Idle : goal.returns-in-Idle
returns-in-Idle c = search outcome_cases

pub returns-in-Sent : goal.returns-in-Sent
returns-in-Sent c = search outcome_cases

pub returns-in-MovedOut : goal.returns-in-MovedOut
returns-in-MovedOut c = search outcome_cases

pub returns-in-InForce : goal.returns-in-InForce
returns-in-InForce c = search outcome_cases
