-- `put_width` writes the digits that the `io` library gives, which are the text of the definition.
use Rattle.text.specs.laws.Digits.{wrote_width}
use Rattle.text.proofs.writing.put_width.Goals as goal

pub returns : goal.returns
returns c = search wrote_width
