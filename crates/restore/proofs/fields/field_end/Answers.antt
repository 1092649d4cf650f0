-- The first tab from the place on ends the field.
use Rattle.restore.specs.laws.Parts.{field_at}
use Rattle.restore.proofs.fields.field_end.Goals as goal

pub returns : goal.returns
returns c = search field_at
