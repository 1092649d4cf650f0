-- `with_mark` adds 2 ^ (p − 1) where mark p is clear, which stays within the word.
use Rattle.quorum.specs.laws.Marks.{with_mark_cases}
use Rattle.quorum.proofs.with_mark.Goals as goal

pub returns-then-p-lt1 : goal.returns-then-p-lt1
returns-then-p-lt1 c = search with_mark_cases

pub returns-then-p-gt64 : goal.returns-then-p-gt64
returns-then-p-gt64 c = search with_mark_cases

pub returns-then-mark : goal.returns-then-mark
returns-then-mark c = search with_mark_cases

pub overflow_add-result : goal.overflow_add-result
overflow_add-result c = search with_mark_cases

pub returns : goal.returns
returns c = search with_mark_cases
