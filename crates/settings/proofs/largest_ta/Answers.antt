-- `largest_ta` is the smaller of ts and whole − 1 − 2·ts.
use Rattle.std.proofs.Common.{arith}
use Rattle.settings.specs.Settings.{largest_ta}
use Rattle.settings.proofs.largest_ta.Goals as goal

pub returns : goal.returns
unfolding largest_ta
returns c = grind arith
