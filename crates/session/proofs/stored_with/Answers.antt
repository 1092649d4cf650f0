-- The session, or none.
use Rattle.session.specs.laws.Cases.{state_cases}
use Rattle.session.proofs.stored_with.Goals as goal

pub session_of-requires : goal.session_of-requires
session_of-requires c = search state_cases

pub returns-then-numbers_right : goal.returns-then-numbers_right
returns-then-numbers_right c = search state_cases

pub returns : goal.returns
returns c = search state_cases
