-- `put_decimal` writes one digit or two at once.
use Rattle.text.specs.laws.Digits.{small_cases}
use Rattle.text.proofs.writing.put_decimal.Goals as goal

pub returns-then-n-lt10 : goal.returns-then-n-lt10
returns-then-n-lt10 c = search small_cases

pub returns-then-n-lt100 : goal.returns-then-n-lt100
returns-then-n-lt100 c = search small_cases
