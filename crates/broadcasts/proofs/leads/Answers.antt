-- A sender leads whose value is held from q senders.
use Rattle.broadcasts.specs.laws.Cases.{leaders}
use Rattle.broadcasts.proofs.leads.Goals as goal

pub returns-then-marked : goal.returns-then-marked
returns-then-marked c = search leaders

pub returns-else-marked : goal.returns-else-marked
returns-else-marked c = search leaders
