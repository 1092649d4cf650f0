-- A stop, a rest that is too long, or the ended part.
use Rattle.std.proofs.Common.{rules}
use Rattle.delivery_csv.specs.laws.Paths.{part_fits, part_size, endeds}
use Rattle.delivery_csv.proofs.stream.convert_ended.Goals as goal

pub slice_bounds-convert_rest-end : goal.slice_bounds-convert_rest-end
slice_bounds-convert_rest-end g c = search part_size

pub overflow_sub-text : goal.overflow_sub-text
overflow_sub-text g c = search part_fits

pub returns-in_err-written : goal.returns-in_err-written
returns-in_err-written g c = record {
  answer = search (endeds, rules);
  bytes = search (endeds, rules);
}

pub returns-then-text-length-ge-MAX_REST : goal.returns-then-text-length-ge-MAX_REST
returns-then-text-length-ge-MAX_REST g c = record {
  answer = search (endeds, rules);
  bytes = search (endeds, rules);
}

pub returns : goal.returns
returns g c = record {
  answer = search (endeds, rules);
  bytes = search (endeds, rules);
}
