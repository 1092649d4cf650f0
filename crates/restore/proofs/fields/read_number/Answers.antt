-- A number of the wrong size or with leading zeros is wrong; else its digits say.
use Rattle.restore.specs.laws.Numbers.{number_cases}
use Rattle.restore.proofs.fields.read_number.Goals as goal

pub returns-then-not-complete : goal.returns-then-not-complete
returns-then-not-complete c = search number_cases

pub returns-then-form-zero_led : goal.returns-then-form-zero_led
returns-then-form-zero_led c = search number_cases

pub returns : goal.returns
returns c = search number_cases
