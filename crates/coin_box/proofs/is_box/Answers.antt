-- The word count, then the stored settings.
use Rattle.std.proofs.Common.{◌∙◌}
use Rattle.coin_box.proofs.laws.Cases.{box_cases}
use Rattle.coin_box.proofs.is_box.Goals as goal

pub returns-then-s-ne-BOX_WORDS : goal.returns-then-s-ne-BOX_WORDS
returns-then-s-ne-BOX_WORDS c = search box_cases

pub returns : goal.returns
returns c = c.is_some.ensures ∙ search box_cases
