-- `put_result` writes six texts one after the other.
use Rattle.drill_lines.specs.laws.Printing.{result_cases}
use Rattle.drill_lines.proofs.printing.put_result.Goals as goal

pub returns : goal.returns
returns c = search result_cases
