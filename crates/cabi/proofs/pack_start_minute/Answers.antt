-- The number of the calendar's answer.
use Rattle.cabi.specs.laws.Starts.{minute_small, start_number_lem}
use Rattle.cabi.proofs.pack_start_minute.Goals as goal

pub start_number-requires : goal.start_number-requires
start_number-requires c = search minute_small

pub returns : goal.returns
returns c = search start_number_lem
