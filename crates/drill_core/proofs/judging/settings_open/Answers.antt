-- The rules on settings are those of opening.
use Rattle.std.proofs.Common.{◌∙◌}
use Rattle.drill_core.specs.laws.JudgingCases.{opened_if_valid}
use Rattle.drill_core.proofs.judging.settings_open.Goals as goal

pub returns : goal.returns
returns c = c.is_some.ensures ∙ search opened_if_valid
