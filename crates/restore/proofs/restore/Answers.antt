-- Enough is lent, or all stays.
use Rattle.restore.specs.laws.Restored.{restore_cases}
use Rattle.restore.proofs.restore.Goals as goal

pub returns-then-state-ne-STATE_WORDS : goal.returns-then-state-ne-STATE_WORDS
returns-then-state-ne-STATE_WORDS c = record {
  answer = search restore_cases;
  words = search restore_cases;
  bytes = search restore_cases;
}

pub returns-then-message-lt-MESSAGE_BYTES : goal.returns-then-message-lt-MESSAGE_BYTES
returns-then-message-lt-MESSAGE_BYTES c = record {
  answer = search restore_cases;
  words = search restore_cases;
  bytes = search restore_cases;
}

pub returns : goal.returns
returns c = record {
  answer = search restore_cases;
  words = search restore_cases;
  bytes = search restore_cases;
}
