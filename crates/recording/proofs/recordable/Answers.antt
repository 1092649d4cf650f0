-- The layout, then the other bit.
use Rattle.recording.specs.laws.Cases.{recordable_cases}
use Rattle.recording.proofs.recordable.Goals as goal

pub returns-then-not-in_layout : goal.returns-then-not-in_layout
returns-then-not-in_layout c = search recordable_cases

pub overflow_cast-i : goal.overflow_cast-i
overflow_cast-i c = search recordable_cases

pub overflow_cast-r : goal.overflow_cast-r
overflow_cast-r c = search recordable_cases

pub overflow_cast-b : goal.overflow_cast-b
overflow_cast-b c = search recordable_cases

pub returns : goal.returns
returns c = search recordable_cases
