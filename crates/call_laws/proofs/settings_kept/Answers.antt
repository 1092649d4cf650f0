-- `settings_kept` states the theorem of proofs/laws/SettingsKept.antt.
use Rattle.call_laws.proofs.laws.SettingsKept.{settings_kept}
use Rattle.call_laws.proofs.settings_kept.Goals as goal

pub returns : goal.returns
returns c = settings_kept
