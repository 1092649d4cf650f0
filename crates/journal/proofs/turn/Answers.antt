-- The turn gets all bytes for its message or none; one that acts writes its line.
use Rattle.std.proofs.Common.{◌∙◌}
use Rattle.journal.specs.laws.Cases.{turn_cases}
use Rattle.journal.proofs.turn.Goals as goal
use Rattle.settings.specs.laws.Answers.{handed_on}

pub slice_bounds-turn-end : goal.slice_bounds-turn-end
slice_bounds-turn-end c = search turn_cases

pub slice_bounds-turn-end-2 : goal.slice_bounds-turn-end-2
slice_bounds-turn-end-2 c = search turn_cases

pub returns-in_err-o : goal.returns-in_err-o
returns-in_err-o c = record {
  answer = handed_on _ _ c.from_residual.ensures.1 ∙ search (turn_cases, c.in_err-o.was);
  words = search turn_cases;
  bytes = search turn_cases;
  line_bytes = search (turn_cases, c.in_err-o.was);
}

pub returns-then-acted : goal.returns-then-acted
returns-then-acted c = record {
  answer = search (turn_cases, c.in_ok-o.was);
  words = search turn_cases;
  bytes = search turn_cases;
  line_bytes = search (turn_cases, c.in_ok-o.was);
}

pub returns-else-acted : goal.returns-else-acted
returns-else-acted c = record {
  answer = search (turn_cases, c.in_ok-o.was);
  words = search turn_cases;
  bytes = search turn_cases;
  line_bytes = search (turn_cases, c.in_ok-o.was);
}
