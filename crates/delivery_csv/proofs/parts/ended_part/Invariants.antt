-- The bytes from place k on are left.
use Rattle.delivery_csv.specs.laws.Walk.{Walking}
use Rattle.delivery_csv.proofs.parts.ended_part.Given as goal

abbrev pub invariant-loop-k : goal.invariant-loop-k
invariant-loop-k g l = Walking g.D.Direction.quotes l.text l.most l.part l.inside l.k
