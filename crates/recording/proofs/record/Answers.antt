-- The refusal, or the mark.
use Rattle.recording.specs.laws.Cases.{record_cases}
use Rattle.recording.proofs.record.Goals as goal

pub returns-in_err-answer-clause-words : goal.returns-in_err-answer-clause-words
returns-in_err-answer-clause-words c = search (record_cases, c.in_err-answer.was)

pub overflow_cast-vote : goal.overflow_cast-vote
overflow_cast-vote c = search (record_cases, c.in_ok-answer.was)

pub overflow_cast-round : goal.overflow_cast-round
overflow_cast-round c = search (record_cases, c.in_ok-answer.was)

pub overflow_cast-bit : goal.overflow_cast-bit
overflow_cast-bit c = search (record_cases, c.in_ok-answer.was)

pub returns-clause-words : goal.returns-clause-words
returns-clause-words c = search (record_cases, c.in_ok-answer.was)
