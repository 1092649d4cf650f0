-- A shift and a remainder; a word has nothing above 64 marks.
use Rattle.quorum.specs.laws.Ones.{part_cases}
use Rattle.quorum.proofs.part.Goals as goal

pub returns-then-base-gt63 : goal.returns-then-base-gt63
returns-then-base-gt63 c = search part_cases

pub returns-then-n-gt63 : goal.returns-then-n-gt63
returns-then-n-gt63 c = search part_cases

pub nonzero_rem-result : goal.nonzero_rem-result
nonzero_rem-result c = search part_cases

pub returns : goal.returns
returns c = search part_cases
