-- The number of coin words, then whether they are printed or boxed.
use Rattle.opening.specs.laws.GivenCases.{coins_cases}
use Rattle.opening.proofs.coins.coins_given.Goals as goal

pub returns-then-n-gt-MAX_CONCENTRATORS : goal.returns-then-n-gt-MAX_CONCENTRATORS
returns-then-n-gt-MAX_CONCENTRATORS c = search coins_cases

pub returns-then-coins-n : goal.returns-then-coins-n
returns-then-coins-n c = search coins_cases

pub returns-then-boxed-gt1 : goal.returns-then-boxed-gt1
returns-then-boxed-gt1 c = search coins_cases

pub returns-then-boxed-eq0 : goal.returns-then-boxed-eq0
returns-then-boxed-eq0 c = search coins_cases

pub returns : goal.returns
returns c = search coins_cases
