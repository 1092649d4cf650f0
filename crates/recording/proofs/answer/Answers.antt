-- The state, then the rest.
use Rattle.recording.specs.laws.Cases.{answer_cases}
use Rattle.recording.proofs.answer.Goals as goal

pub returns-in_default : goal.returns-in_default
returns-in_default c = search answer_cases

pub returns : goal.returns
returns c = search answer_cases
