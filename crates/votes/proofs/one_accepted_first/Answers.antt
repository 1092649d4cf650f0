-- The mark, then the count.
use Rattle.votes.specs.laws.Cases.{marked_first}
use Rattle.votes.proofs.one_accepted_first.Goals as goal

pub returns-then-one_first : goal.returns-then-one_first
returns-then-one_first c = search marked_first

pub returns-else-one_first : goal.returns-else-one_first
returns-else-one_first c = rw c.if-one_first.false (search marked_first)
