-- The link is no number, or the bytes are delivered over it.
use Rattle.restore.specs.laws.Applying.{link_cases}
use Rattle.restore.proofs.lines.deliver_fields.Goals as goal

pub returns-in_default : goal.returns-in_default
returns-in_default c = search link_cases

pub returns : goal.returns
returns c = search link_cases
