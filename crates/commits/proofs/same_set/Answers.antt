-- Sets of one size are compared value by value.
use Rattle.std.proofs.Common.{rules}
use Rattle.std.specs.Prelude.{eqb}
use Rattle.quorum.proofs.laws.Asked.{every_asked}
use Rattle.records.specs.Records.{commit_value}
use Rattle.commits.specs.laws.Cases.{commit_cases}
use Rattle.commits.proofs.same_set.Goals as goal

pub returns-then-n-commit_count : goal.returns-then-n-commit_count
returns-then-n-commit_count c = search commit_cases

pub returns : goal.returns
returns c =
    let e = every_asked (λ k. eqb (commit_value c.args.s.now c.args.p k) (commit_value c.args.s.now c.args.q k)) c.all.result c.all.ensures.ran (λ k b f h. search rules) in
    search (commit_cases, e)
