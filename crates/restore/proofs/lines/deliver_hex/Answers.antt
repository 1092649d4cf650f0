-- The field is wrong, or too long for a message, or its bytes are delivered.
use Rattle.restore.specs.laws.Applying.{hex_cases}
use Rattle.restore.proofs.lines.deliver_hex.Goals as goal

pub slice_bounds-bytes-end : goal.slice_bounds-bytes-end
slice_bounds-bytes-end c = search hex_cases

pub slice_bounds-deliver-end : goal.slice_bounds-deliver-end
slice_bounds-deliver-end c = search hex_cases

pub returns-in_default : goal.returns-in_default
returns-in_default c = search hex_cases

pub returns : goal.returns
returns c = rw c.is_ok.ensures.value (search hex_cases)
