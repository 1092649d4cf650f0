-- By the cases of both digits.
use Rattle.restore.specs.laws.Hex.{byte_cases}
use Rattle.restore.proofs.fields.byte_of.Goals as goal

pub returns-then-d-ge16 : goal.returns-then-d-ge16
returns-then-d-ge16 c = search byte_cases

pub returns-then-e-ge16 : goal.returns-then-e-ge16
returns-then-e-ge16 c = search byte_cases

pub returns : goal.returns
returns c = search byte_cases
