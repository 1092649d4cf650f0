-- Only what is sent is written.
use Rattle.turn.specs.laws.Taking.{write_cases}
use Rattle.turn.proofs.write_outcome.Goals as goal

pub returns-in-Idle : goal.returns-in-Idle
returns-in-Idle c = search write_cases

pub returns-in-Sent : goal.returns-in-Sent
returns-in-Sent c = search write_cases

pub returns-in-MovedOut : goal.returns-in-MovedOut
returns-in-MovedOut c = search write_cases

pub returns-in-InForce : goal.returns-in-InForce
returns-in-InForce c = search write_cases
