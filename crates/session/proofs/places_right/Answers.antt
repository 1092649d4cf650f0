-- Each of 1 to n is asked.
use Rattle.std.proofs.Common.{rules}
use Rattle.quorum.proofs.laws.Asked.{every_asked}
use Rattle.session.specs.laws.Session.{place_right}
use Rattle.session.proofs.places_right.Goals as goal

pub returns : goal.returns
returns c = every_asked (place_right c.args.s.now c.args.n) c.all.result c.all.ensures.ran (λ k b f h. search rules)
