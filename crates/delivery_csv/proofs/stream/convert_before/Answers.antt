-- The part before is taken, so that one path is none.
use Rattle.delivery_csv.specs.laws.Paths.{part_size, befores}
use Rattle.delivery_csv.specs.laws.Progress.{number_positive}
use Rattle.delivery_csv.proofs.stream.convert_before.Goals as goal

pub overflow_sub-n : goal.overflow_sub-n
overflow_sub-n g c = search number_positive

pub slice_bounds-convert-end : goal.slice_bounds-convert-end
slice_bounds-convert-end g c = search part_size

pub returns-in-Ok : goal.returns-in-Ok
returns-in-Ok g c = record {
  answer = search befores;
  bytes = search befores;
}

pub returns-in-Err : goal.returns-in-Err
returns-in-Err g c = record {
  answer = search befores;
  bytes = search befores;
}
