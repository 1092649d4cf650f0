-- The coin word is 0.
use Rattle.opening.specs.Given.{coin_zero}
use Rattle.opening.proofs.coins.coin_zero.Goals as goal

pub returns : goal.returns
unfolding coin_zero
returns c = cc
