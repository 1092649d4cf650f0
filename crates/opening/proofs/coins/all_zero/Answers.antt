-- Each coin word is asked.
use Rattle.std.proofs.Common.{rules}
use Rattle.quorum.proofs.laws.Asked.{every_asked}
use Rattle.opening.specs.Given.{coin_zero}
use Rattle.opening.proofs.coins.all_zero.Goals as goal

pub returns : goal.returns
returns c = every_asked (coin_zero c.args.coins.now) c.all.result c.all.ensures.ran (λ k b f h. search rules)
