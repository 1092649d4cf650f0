-- The weight of marks is one count of four copies of them.
use Rattle.quorum.specs.laws.Weights.{weigh_cases}
use Rattle.quorum.proofs.weigh_marks.Goals as goal

pub returns-then-marked-eq0 : goal.returns-then-marked-eq0
returns-then-marked-eq0 c = search weigh_cases

pub overflow_mul-result : goal.overflow_mul-result
overflow_mul-result c = search weigh_cases

pub overflow_cast-result : goal.overflow_cast-result
overflow_cast-result c = search weigh_cases

pub returns : goal.returns
returns c = search weigh_cases
