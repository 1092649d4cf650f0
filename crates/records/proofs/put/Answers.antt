-- A store within the state, or nothing past its end.
use Rattle.records.specs.laws.Words.{words}
use Rattle.records.proofs.put.Goals as goal

pub returns-then-k-s : goal.returns-then-k-s
returns-then-k-s c = search words

pub returns-else-k-s : goal.returns-else-k-s
returns-else-k-s c = search words
