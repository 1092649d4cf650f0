-- No state, or the verdict in its session.
use Rattle.delivery.specs.laws.Cases.{verdict_cases}
use Rattle.delivery.proofs.judge.Goals as goal

pub returns-then-s-ne-STATE_WORDS : goal.returns-then-s-ne-STATE_WORDS
returns-then-s-ne-STATE_WORDS c = search verdict_cases

pub returns-in_default : goal.returns-in_default
returns-in_default c = search verdict_cases

pub returns : goal.returns
returns c = search verdict_cases
