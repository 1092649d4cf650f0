-- The number of the answer.
use Rattle.cabi.specs.laws.Cases.{restore_cases}
use Rattle.cabi.proofs.pack_restore.Goals as goal

pub restored_number-requires : goal.restored_number-requires
restored_number-requires c = search restore_cases

pub returns : goal.returns
returns c = record {
  answer = search restore_cases;
  words = search restore_cases;
  bytes = search restore_cases;
}
