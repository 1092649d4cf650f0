-- All four tests.
use Rattle.coin_box.specs.Box.{asks}
use Rattle.coin_box.proofs.asks.Goals as goal

pub returns : goal.returns
unfolding asks
returns c = cc
