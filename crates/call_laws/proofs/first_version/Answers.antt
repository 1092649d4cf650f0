-- `first_version` states the theorem of proofs/laws/FirstVersion.antt.
use Rattle.call_laws.proofs.laws.FirstVersion.{first_version}
use Rattle.call_laws.proofs.first_version.Goals as goal

pub returns : goal.returns
returns c = first_version
