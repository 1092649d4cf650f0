-- Each answer has its number; what stands above bit 7 is cut to its bits.
use Rattle.std.proofs.Common.{rules}
use Rattle.cabi.specs.laws.Conversions.{conversion_cases}
use Rattle.cabi.proofs.conversion_number.Goals as goal

pub returns-in-Err-Record : goal.returns-in-Err-Record
returns-in-Err-Record c = search (conversion_cases, rules)

pub returns-in-Ok : goal.returns-in-Ok
returns-in-Ok c = search conversion_cases
