-- The value at place i − 1 where mark i is set.
use Rattle.broadcasts.specs.laws.Storing.{output_reads}
use Rattle.broadcasts.proofs.output_at.Goals as goal

pub returns-then-i-lt1 : goal.returns-then-i-lt1
returns-then-i-lt1 c = search output_reads

pub returns-then-i-gt16 : goal.returns-then-i-gt16
returns-then-i-gt16 c = search output_reads

pub returns-then-mark : goal.returns-then-mark
returns-then-mark c = search output_reads

pub returns : goal.returns
returns c = search output_reads
