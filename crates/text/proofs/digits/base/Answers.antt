-- `base` is 10 or 16.
use Rattle.text.specs.laws.DigitCases.{base_cases}
use native.Mathlib.Omega.{arith}
use Rattle.text.proofs.digits.base.Goals as goal

pub returns-then-form-eq-DECIMAL : goal.returns-then-form-eq-DECIMAL
returns-then-form-eq-DECIMAL c = (search base_cases, omega arith)

pub returns-else-form-eq-DECIMAL : goal.returns-else-form-eq-DECIMAL
returns-else-form-eq-DECIMAL c = (search base_cases, omega arith)
