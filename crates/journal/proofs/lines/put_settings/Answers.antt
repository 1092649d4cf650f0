-- `put_settings` writes one part after the other.
use Rattle.journal.specs.laws.Parts.{wrote_settings}
use Rattle.journal.proofs.lines.put_settings.Goals as goal

pub returns : goal.returns
returns c = search wrote_settings
