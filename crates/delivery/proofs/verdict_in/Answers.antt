-- Closed, the refusals of the message, held, or accepted.
use Rattle.std.proofs.Common.{◌∙◌}
use Rattle.settings.specs.laws.Answers.{handed_on}
use Rattle.delivery.specs.laws.Cases.{verdict_cases}
use Rattle.delivery.specs.laws.Accepting.{link_fits}
use Rattle.delivery.proofs.verdict_in.Goals as goal

pub returns-then-closed : goal.returns-then-closed
returns-then-closed c = search verdict_cases

pub returns-in_err-m : goal.returns-in_err-m
returns-in_err-m c = handed_on _ _ c.from_residual.ensures.1 ∙ search (verdict_cases, c.in_err-m.was)

pub overflow_cast-link : goal.overflow_cast-link
overflow_cast-link c = search (link_fits, c.in_ok-m.was)

pub returns-then-place_held : goal.returns-then-place_held
returns-then-place_held c = search (verdict_cases, c.in_ok-m.was)

pub returns : goal.returns
returns c = search (verdict_cases, c.in_ok-m.was)
