-- `check_named` checks the settings with the ta that is meant.
use Rattle.settings.specs.laws.Cases.{check_cases}
use Rattle.settings.proofs.Settings.check_named.Goals as goal

pub returns-then-n-gt-MAX_CONCENTRATORS : goal.returns-then-n-gt-MAX_CONCENTRATORS
returns-then-n-gt-MAX_CONCENTRATORS c = search check_cases

pub returns : goal.returns
returns c = cc
