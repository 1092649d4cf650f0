-- Four words in their order.
use Rattle.coin_box.specs.Box.{box_settings}
use Rattle.coin_box.proofs.put_settings.Goals as goal

pub returns : goal.returns
unfolding box_settings
returns c = cc
