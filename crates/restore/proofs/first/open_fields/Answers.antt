-- All fields are numbers of their forms, or the line cannot be applied.
use Rattle.restore.specs.laws.First.{read_cases}
use Rattle.restore.proofs.first.open_fields.Goals as goal

pub returns-then-n-gt16 : goal.returns-then-n-gt16
returns-then-n-gt16 c = search read_cases

pub open_counted-requires : goal.open_counted-requires
open_counted-requires c = search read_cases

pub returns-in_default : goal.returns-in_default
returns-in_default c = search read_cases

pub returns : goal.returns
returns c = search read_cases
