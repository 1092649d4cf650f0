-- The two tests.
use Rattle.session.specs.Session.{numbered}
use mathlib.Core.Path.{refl}
use Rattle.session.proofs.numbered.Goals as goal

pub returns : goal.returns
unfolding numbered
returns c = refl
