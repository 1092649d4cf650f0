-- The marks of the senders above q that hold the set are collected, and all are weighed at the end.
use mathlib.Core.Bool.{◌&&◌}
use Rattle.quorum.specs.laws.Marking.{Marking}
use Rattle.commits.specs.Commits.{commit_held, same_set}
use Rattle.commits.proofs.set_holders.Given as goal

abbrev pub invariant-loop-k : goal.invariant-loop-k
invariant-loop-k l = Marking (λ q. commit_held l.s q && same_set l.s l.p q) l.initial.k l.k l.m
