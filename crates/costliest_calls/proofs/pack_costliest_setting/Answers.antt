-- ta, ts and the coin words are 0.
use Rattle.costliest_calls.specs.laws.Cases.{setting_zero}
use Rattle.costliest_calls.proofs.pack_costliest_setting.Goals as goal

pub returns-in_default : goal.returns-in_default
returns-in_default c = search setting_zero
