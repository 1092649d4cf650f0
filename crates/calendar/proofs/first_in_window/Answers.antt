-- The theorem of specs/laws/First.antt.
use Rattle.calendar.specs.laws.First.{first_in_window}
use Rattle.calendar.proofs.first_in_window.Goals as goal

pub returns : goal.returns
returns c = first_in_window
