-- `vote_rule` looks at the votes 1 to n in rising order.
use Rattle.std.proofs.Common.{rules}
use Rattle.quorum.specs.Marks.{mark}
use Rattle.votes.specs.Votes.{vote_due, vote_rule}
use Rattle.votes.proofs.vote_rule.Goals as goal

pub returns : goal.returns
unfolding vote_rule
returns c =
    rw (← c.version.ensures, ← c.finishing-finishes.ensures, ← c.votes_decided_one-ones.ensures)
    (c.first_due.ensures (λ i. vote_due c.args.g c.args.s.now c.finishing-finishes.result (mark c.args.outputs i) c.votes_decided_one-ones.result i) (λ i a l h p. search rules))
