use Rattle.calendar.specs.laws.Search.{soughts}
use Rattle.calendar.proofs.nearest_window.Goals as goal

pub loop-k-init : goal.loop-k-init
loop-k-init c = search soughts

pub returns-in_default : goal.returns-in_default
returns-in_default c = search soughts

pub loop-k-preserved : goal.loop-k-preserved
loop-k-preserved c = search soughts

pub returns : goal.returns
returns c = search soughts

pub returns-in-Some : goal.returns-in-Some
returns-in-Some c = search soughts
