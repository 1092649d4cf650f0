-- 2 ^ n - 1.
use Rattle.drill_core.specs.laws.JudgingCases.{ones_cases}
use Rattle.drill_core.proofs.judging.ones_word.Goals as goal

pub returns-then-n-gt16 : goal.returns-then-n-gt16
returns-then-n-gt16 c = search ones_cases

pub returns : goal.returns
returns c = search ones_cases
