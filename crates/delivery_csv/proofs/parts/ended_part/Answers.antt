use Rattle.delivery_csv.specs.laws.Walk.{walkings}
use Rattle.delivery_csv.proofs.parts.ended_part.Goals as goal

pub loop-k-init : goal.loop-k-init
loop-k-init g c = search walkings

pub loop-k-preserved : goal.loop-k-preserved
loop-k-preserved g c = search walkings

pub returns : goal.returns
returns g c = search walkings
