-- Printed, or recorded.
use Rattle.records.specs.laws.Cases.{known_cases}
use Rattle.records.proofs.coin_known.Goals as goal

pub returns-then-printed : goal.returns-then-printed
returns-then-printed c = search known_cases

pub returns : goal.returns
returns c = search known_cases
