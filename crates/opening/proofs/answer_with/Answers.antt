-- The refusals in their order.
use Rattle.opening.specs.laws.Cases.{open_cases}
use Rattle.opening.proofs.answer_with.Goals as goal

pub returns-then-words-ne-STATE_WORDS : goal.returns-then-words-ne-STATE_WORDS
returns-then-words-ne-STATE_WORDS c = search open_cases

pub returns-then-not-version_known : goal.returns-then-not-version_known
returns-then-not-version_known c = search open_cases

pub returns-then-not-settings_valid : goal.returns-then-not-settings_valid
returns-then-not-settings_valid c = search open_cases

pub returns-then-not-numbered : goal.returns-then-not-numbered
returns-then-not-numbered c = search open_cases

pub returns-then-not-coins_given : goal.returns-then-not-coins_given
returns-then-not-coins_given c = search open_cases

pub returns : goal.returns
returns c = search open_cases
