-- Its two cases.
use Rattle.restore.specs.laws.Turning.{taken_answers}
use Rattle.restore.proofs.lines.by_taken.Goals as goal

pub returns-then-taken : goal.returns-then-taken
returns-then-taken c = search taken_answers

pub returns : goal.returns
returns c = search taken_answers
