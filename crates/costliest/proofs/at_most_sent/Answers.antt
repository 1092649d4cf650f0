-- `at_most_sent` states the theorem of proofs/laws/SentCalls.antt.
use Rattle.costliest.proofs.laws.SentCalls.{at_most_sent}
use Rattle.costliest.proofs.at_most_sent.Goals as goal

pub returns : goal.returns
returns c = at_most_sent
