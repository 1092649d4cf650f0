-- `put_byte` writes within the bytes, and nothing past their end.
use Rattle.text.specs.laws.Paste.{byte_cases}
use Rattle.text.proofs.writing.put_byte.Goals as goal

pub returns-then-out-at : goal.returns-then-out-at
returns-then-out-at c = search byte_cases

pub returns : goal.returns
returns c = search byte_cases
