-- `named_ta` reads 255 as the largest ta, and any other number as itself.
use Rattle.settings.specs.laws.Cases.{named, unnamed}
use Rattle.settings.proofs.Settings.named_ta.Goals as goal

pub returns-then-ta-eq-UNNAMED : goal.returns-then-ta-eq-UNNAMED
returns-then-ta-eq-UNNAMED c = search unnamed

pub returns-else-ta-eq-UNNAMED : goal.returns-else-ta-eq-UNNAMED
returns-else-ta-eq-UNNAMED c = search named
