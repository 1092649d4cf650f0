-- `relay_value` takes the three cases of `relay_value`.
use Rattle.votes.specs.laws.Cases.{relays}
use Rattle.votes.proofs.relay_value.Goals as goal

pub returns-then-est_sent : goal.returns-then-est_sent
returns-then-est_sent c = search relays

pub returns-then-relay-est_count : goal.returns-then-relay-est_count
returns-then-relay-est_count c = search relays

pub returns : goal.returns
returns c = search relays
