use Rattle.std.proofs.Common.{rules}
use Rattle.delivery_lists.specs.laws.Bounds.{boundeds}
use Rattle.delivery_lists.proofs.finish.Goals as goal

pub slice_bounds-write-end : goal.slice_bounds-write-end
slice_bounds-write-end g c = search (boundeds, rules)

pub slice_bounds-write-end-in-Ok : goal.slice_bounds-write-end-in-Ok
slice_bounds-write-end-in-Ok g c = search (boundeds, rules)

pub refuse-requires : goal.refuse-requires
refuse-requires g c = search (boundeds, rules)
