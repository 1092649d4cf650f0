-- After the words above p their marks are collected.
use Rattle.quorum.specs.laws.Marking.{Marking}
use Rattle.records.specs.Words.{equal_at}
use Rattle.records.proofs.equal_within.Given as goal

abbrev pub invariant-loop-p : goal.invariant-loop-p
invariant-loop-p l = Marking (equal_at l.s l.base l.v) l.initial.p l.p l.m
