-- `fits` divides where the definition multiplies, so that nothing wraps.
use Rattle.text.specs.laws.DigitCases.{fits_cases}
use Rattle.text.proofs.digits.fits.Goals as goal

pub returns : goal.returns
returns c = search fits_cases
