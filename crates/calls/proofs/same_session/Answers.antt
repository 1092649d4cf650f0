-- `same_session` states the law of proofs/laws/SameSession.antt.
use Rattle.calls.proofs.laws.SameSession.{same_session_lem}
use Rattle.calls.proofs.same_session.Goals as goal

pub returns : goal.returns
returns c = same_session_lem
