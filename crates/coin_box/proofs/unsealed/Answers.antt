-- The weight is compared with ta.
use Rattle.coin_box.proofs.laws.Cases.{weight_compared}
use Rattle.coin_box.proofs.unsealed.Goals as goal

pub returns : goal.returns
returns c = search weight_compared
