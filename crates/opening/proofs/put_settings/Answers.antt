-- Eight words in their order.
use Rattle.opening.specs.laws.WeightsWord.{settings_with}
use Rattle.opening.proofs.put_settings.Goals as goal

pub returns : goal.returns
unfolding settings_with
returns c = cc
