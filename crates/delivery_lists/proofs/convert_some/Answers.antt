use Rattle.std.proofs.Common.{rules}
use Rattle.delivery_lists.specs.laws.Bounds.{boundeds}
use Rattle.delivery_lists.proofs.convert_some.Goals as goal

pub slice_bounds-write-end : goal.slice_bounds-write-end
slice_bounds-write-end g c = search (boundeds, rules)

pub slice_bounds-write-end-in-Ok : goal.slice_bounds-write-end-in-Ok
slice_bounds-write-end-in-Ok g c = search (boundeds, rules)

pub copy_within-requires-clause-start_le_end : goal.copy_within-requires-clause-start_le_end
copy_within-requires-clause-start_le_end g c = search (boundeds, rules)

pub overflow_sub-result : goal.overflow_sub-result
overflow_sub-result g c = search (boundeds, rules)

pub refuse-requires : goal.refuse-requires
refuse-requires g c = search (boundeds, rules)

pub returns-in_ok-write-in-Ok : goal.returns-in_ok-write-in-Ok
returns-in_ok-write-in-Ok g c = search (boundeds, rules)
