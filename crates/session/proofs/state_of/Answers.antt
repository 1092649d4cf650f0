-- Word count, then settings, then the rest.
use Rattle.std.proofs.Common.{◌∙◌}
use Rattle.session.specs.laws.Cases.{state_cases}
use Rattle.session.proofs.state_of.Goals as goal

pub returns-then-s-ne-STATE_WORDS : goal.returns-then-s-ne-STATE_WORDS
returns-then-s-ne-STATE_WORDS c = search state_cases

pub returns-in_err-g : goal.returns-in_err-g
returns-in_err-g c = c.from_residual.ensures ∙ search (state_cases, c.in_err-g.was)

pub returns : goal.returns
returns c = search (state_cases, c.in_ok-g.was)
