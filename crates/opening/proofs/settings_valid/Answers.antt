-- Settings are given exactly if they are valid.
use Rattle.std.proofs.Common.{◌∙◌, ap}
use Rattle.std.specs.Option.{is_some}
use Rattle.opening.specs.laws.Cases.{checked_valid}
use Rattle.opening.proofs.settings_valid.Goals as goal

pub returns : goal.returns
returns c = c.is_some.ensures ∙ ap is_some c.check_named.ensures ∙ checked_valid _ _ _ _
