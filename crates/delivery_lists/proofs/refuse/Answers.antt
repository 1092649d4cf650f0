use Rattle.std.proofs.Common.{rules}
use Rattle.delivery_lists.specs.laws.Bounds.{never_short, refused_size}
use Rattle.delivery_lists.proofs.refuse.Goals as goal

pub unreachable-requires : goal.unreachable-requires
unreachable-requires c = search (never_short, refused_size, rules)

pub slice_bounds-write-end : goal.slice_bounds-write-end
slice_bounds-write-end c = search (never_short, refused_size, rules)
