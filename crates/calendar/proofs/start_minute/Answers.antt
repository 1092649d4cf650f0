-- One path for each refusal, and one for the minute.
use Rattle.calendar.specs.laws.Start.{starts, minute_fits}
use Rattle.calendar.proofs.start_minute.Goals as goal

pub returns-then-windows-eq0 : goal.returns-then-windows-eq0
returns-then-windows-eq0 c = search starts

pub returns-then-windows-gt-MAX_NUMBERS : goal.returns-then-windows-gt-MAX_NUMBERS
returns-then-windows-gt-MAX_NUMBERS c = search starts

pub returns-then-closing-gt-MAX_CLOSING : goal.returns-then-closing-gt-MAX_CLOSING
returns-then-closing-gt-MAX_CLOSING c = search starts

pub returns-then-lead-gt-WEEK_MINUTES : goal.returns-then-lead-gt-WEEK_MINUTES
returns-then-lead-gt-WEEK_MINUTES c = search starts

pub overflow_add-result : goal.overflow_add-result
overflow_add-result c = search minute_fits

pub returns-in-None : goal.returns-in-None
returns-in-None c = search starts

pub returns-in-Some : goal.returns-in-Some
returns-in-Some c = search starts
