-- A minute of 32 bits fits above bit 31.
use Rattle.cabi.specs.laws.Starts.{minutes}
use Rattle.cabi.proofs.start_number.Goals as goal

pub overflow_mul-result : goal.overflow_mul-result
overflow_mul-result c = search minutes

pub returns-in-Ok : goal.returns-in-Ok
returns-in-Ok c = search minutes
