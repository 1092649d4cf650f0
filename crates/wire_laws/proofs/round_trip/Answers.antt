-- `round_trip` states the theorem of proofs/RoundTrip.antt.
use Rattle.wire_laws.proofs.RoundTrip.{round_trip}
use Rattle.wire_laws.proofs.round_trip.Goals as goal

pub returns : goal.returns
returns c = round_trip
