-- src/lib.rt:48:13
use Rattle.settings.specs.laws.Cases.{check_cases, check_fits}
use borrow.Author.Rules.{rules}
use Rattle.settings.proofs.Settings.check.Goals as goal

pub returns-then-n-lt1 : goal.returns-then-n-lt1
returns-then-n-lt1 c = search check_cases

-- src/lib.rt:51:13

pub returns-then-n-gt-MAX_CONCENTRATORS : goal.returns-then-n-gt-MAX_CONCENTRATORS
returns-then-n-gt-MAX_CONCENTRATORS c = search check_cases

-- src/lib.rt:53:17

pub overflow_cast-m : goal.overflow_cast-m
overflow_cast-m c = search rules

-- src/lib.rt:54:13

pub weights_right-requires : goal.weights_right-requires
weights_right-requires c = search rules

-- src/lib.rt:55:13

pub returns-then-not-weights_right : goal.returns-then-not-weights_right
returns-then-not-weights_right c = search check_cases

-- src/lib.rt:58:13

pub returns-then-ts-ta : goal.returns-then-ts-ta
returns-then-ts-ta c = search check_cases

-- src/lib.rt:60:13

pub whole-w-requires : goal.whole-w-requires
whole-w-requires c = search rules

-- src/lib.rt:63:13

pub returns-then-w-ts : goal.returns-then-w-ts
returns-then-w-ts c = search check_cases

-- src/lib.rt:65:17

pub overflow_mul-ts : goal.overflow_mul-ts
overflow_mul-ts c = search check_fits

-- src/lib.rt:65:17

pub overflow_add-ts : goal.overflow_add-ts
overflow_add-ts c = search check_fits

-- src/lib.rt:66:13

pub returns-then-w-ts-2 : goal.returns-then-w-ts-2
returns-then-w-ts-2 c = search check_cases

-- src/lib.rt:70:17

pub overflow_cast-result : goal.overflow_cast-result
overflow_cast-result c = search check_fits

-- src/lib.rt:71:17

pub overflow_cast-result-2 : goal.overflow_cast-result-2
overflow_cast-result-2 c = search check_fits

-- src/lib.rt:72:20

pub overflow_cast-result-3 : goal.overflow_cast-result-3
overflow_cast-result-3 c = search check_fits

-- src/lib.rt:44:5

pub returns : goal.returns
returns c = search check_cases
