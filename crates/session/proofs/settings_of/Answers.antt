-- A state's own settings, within a byte each.
use Rattle.session.specs.laws.Cases.{settings_cases}
use Rattle.session.proofs.settings_of.Goals as goal

pub overflow_cast-n : goal.overflow_cast-n
overflow_cast-n c = search settings_cases

pub overflow_cast-result : goal.overflow_cast-result
overflow_cast-result c = search settings_cases

pub overflow_cast-result-2 : goal.overflow_cast-result-2
overflow_cast-result-2 c = search settings_cases

pub overflow_cast-result-3 : goal.overflow_cast-result-3
overflow_cast-result-3 c = search settings_cases

pub returns : goal.returns
returns c = search settings_cases
