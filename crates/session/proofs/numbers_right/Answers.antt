-- The tests in their order.
use Rattle.session.specs.laws.Cases.{number_cases}
use Rattle.session.proofs.numbers_right.Goals as goal

pub returns-then-not-numbered : goal.returns-then-not-numbered
returns-then-not-numbered c = search number_cases

pub returns-then-not-kinds_right : goal.returns-then-not-kinds_right
returns-then-not-kinds_right c = search number_cases

pub returns-then-turn_bound-word : goal.returns-then-turn_bound-word
returns-then-turn_bound-word c = search number_cases

pub returns : goal.returns
returns c = search number_cases
