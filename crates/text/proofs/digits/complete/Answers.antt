-- `complete` goes by the form.
use Rattle.text.specs.laws.DigitCases.{complete_cases}
use Rattle.text.proofs.digits.complete.Goals as goal

pub returns-then-form-eq-DECIMAL : goal.returns-then-form-eq-DECIMAL
returns-then-form-eq-DECIMAL c = search complete_cases

pub returns : goal.returns
returns c = search complete_cases
