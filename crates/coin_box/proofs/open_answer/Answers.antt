-- The refusals in their order.
use Rattle.coin_box.proofs.laws.Cases.{box_open_cases}
use Rattle.coin_box.proofs.open_answer.Goals as goal

pub returns-then-words-ne-BOX_WORDS : goal.returns-then-words-ne-BOX_WORDS
returns-then-words-ne-BOX_WORDS c = search box_open_cases

pub returns-then-not-settings_valid : goal.returns-then-not-settings_valid
returns-then-not-settings_valid c = search box_open_cases

pub returns-then-coins-n : goal.returns-then-coins-n
returns-then-coins-n c = search box_open_cases

pub returns : goal.returns
returns c = search box_open_cases
