-- The first values of the sender's row.
use Rattle.records.specs.laws.Sets.{copies}
use Rattle.records.proofs.copy_commit.Goals as goal

pub copy_front-requires : goal.copy_front-requires
copy_front-requires c = search copies

pub returns : goal.returns
returns c = search copies
