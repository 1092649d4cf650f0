-- A coin word that is there, or 0.
use Rattle.opening.specs.laws.Cases.{open_cases}
use Rattle.opening.proofs.coins.coin_word.Goals as goal

pub returns-then-i-lt1 : goal.returns-then-i-lt1
returns-then-i-lt1 c = search open_cases

pub returns-then-k-coins : goal.returns-then-k-coins
returns-then-k-coins c = search open_cases

pub returns-else-k-coins : goal.returns-else-k-coins
returns-else-k-coins c = search open_cases
