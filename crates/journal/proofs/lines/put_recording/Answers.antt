-- `put_recording` writes one part after the other.
use Rattle.journal.specs.laws.Parts.{wrote_recording}
use Rattle.journal.proofs.lines.put_recording.Goals as goal

pub returns : goal.returns
returns c = search wrote_recording
