use Rattle.calendar.specs.Calendar.{window_right}
use Rattle.calendar.proofs.window_right.Goals as goal

pub returns : goal.returns
unfolding window_right
returns c = cc
