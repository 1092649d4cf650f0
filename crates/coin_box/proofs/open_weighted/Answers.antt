-- The refusal, or the words.
use Rattle.coin_box.proofs.laws.Cases.{box_open_cases}
use Rattle.coin_box.proofs.open_weighted.Goals as goal

pub returns-in_err-open_answer-clause-words : goal.returns-in_err-open_answer-clause-words
returns-in_err-open_answer-clause-words c = search (box_open_cases, c.in_err-open_answer.was)

pub overflow_cast-number : goal.overflow_cast-number
overflow_cast-number c = search (box_open_cases, c.in_ok-open_answer.was)

pub returns-clause-words : goal.returns-clause-words
returns-clause-words c = search (box_open_cases, c.in_ok-open_answer.was)
