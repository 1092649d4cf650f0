-- `put_quote_if` writes a quote or nothing.
use Rattle.delivery_csv.specs.laws.LineCases.{quote_cases}
use Rattle.delivery_csv.proofs.lines.put_quote_if.Goals as goal

pub returns-then-wraps : goal.returns-then-wraps
returns-then-wraps c = search quote_cases

pub returns : goal.returns
returns c = search quote_cases
