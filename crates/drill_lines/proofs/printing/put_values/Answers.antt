-- `put_values` writes "-", or the first value and the others after commas.
use Rattle.drill_lines.specs.laws.Printing.{values_cases}
use Rattle.drill_lines.proofs.printing.put_values.Goals as goal

pub returns-in-None : goal.returns-in-None
returns-in-None c = let h = c.in-None.ensures.cases in search values_cases

pub returns-in-Some : goal.returns-in-Some
returns-in-Some c = let h = c.in-Some.ensures.cases in search values_cases
