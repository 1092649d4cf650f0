-- A field of one byte is that byte.
use Rattle.restore.specs.laws.Numbers.{field_cases}
use Rattle.restore.proofs.fields.letter.Goals as goal

pub returns-then-f-eq1 : goal.returns-then-f-eq1
returns-then-f-eq1 c = search field_cases

pub returns : goal.returns
returns c = search field_cases
