-- The output stays within the lent bytes.
use Rattle.drill_core.specs.laws.Parts.{wrote_fits, wrote_length}
use Rattle.drill.proofs.print.Goals as goal

pub slice_bounds-out-end : goal.slice_bounds-out-end
slice_bounds-out-end g c = search wrote_fits

pub slice_bounds-write_all-end : goal.slice_bounds-write_all-end
slice_bounds-write_all-end g c = search wrote_length
