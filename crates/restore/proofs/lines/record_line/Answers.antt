-- All fields are decimals, or the line cannot be applied.
use Rattle.restore.specs.laws.Recorded.{recording_cases}
use Rattle.restore.proofs.lines.record_line.Goals as goal

pub record_numbers-requires : goal.record_numbers-requires
record_numbers-requires c = search recording_cases

pub returns-in_default : goal.returns-in_default
returns-in_default c = search recording_cases

pub returns : goal.returns
returns c = search recording_cases
