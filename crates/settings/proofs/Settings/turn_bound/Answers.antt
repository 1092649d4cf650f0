-- `turn_bound` is 99·n + 3, and 100·n + 3 where there are FINISHes.
use Rattle.settings.specs.laws.Versions.{with_finishes, without_finishes}
use Rattle.settings.proofs.Settings.turn_bound.Goals as goal

pub returns-then-finishing : goal.returns-then-finishing
returns-then-finishing c = search with_finishes

pub returns : goal.returns
returns c = search without_finishes
