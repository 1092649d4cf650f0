-- The field is a number of its form, or nothing is stored.
use Rattle.restore.specs.laws.Filling.{stored_cases}
use Rattle.restore.proofs.first.store_field.Goals as goal

pub returns-in_default : goal.returns-in_default
returns-in_default c = search stored_cases

pub returns : goal.returns
returns c = search stored_cases
