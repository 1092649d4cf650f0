-- By the places.
use Rattle.restore.specs.laws.Forms.{form_cases}
use Rattle.restore.proofs.first.form_of.Goals as goal

pub returns-then-k-lt6 : goal.returns-then-k-lt6
returns-then-k-lt6 c = search form_cases

pub returns-then-k-eq6 : goal.returns-then-k-eq6
returns-then-k-eq6 c = search form_cases

pub returns-then-k-n : goal.returns-then-k-n
returns-then-k-n c = search form_cases

pub returns : goal.returns
returns c = search form_cases
