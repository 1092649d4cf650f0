-- `drill_laws::messages_kept` states a theorem of specs/Demands.antt.
use Rattle.drill_laws.proofs.laws.Demands.{messages_kept}
use Rattle.drill_laws.proofs.messages_kept.Goals as goal

pub returns : goal.returns
returns c = messages_kept
