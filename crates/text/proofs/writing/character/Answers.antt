-- `character` goes by the digit.
use Rattle.text.specs.laws.DigitCases.{character_cases}
use Rattle.text.proofs.writing.character.Goals as goal

pub returns-then-digit-lt10 : goal.returns-then-digit-lt10
returns-then-digit-lt10 c = search character_cases

pub returns-else-digit-lt10 : goal.returns-else-digit-lt10
returns-else-digit-lt10 c = search character_cases
