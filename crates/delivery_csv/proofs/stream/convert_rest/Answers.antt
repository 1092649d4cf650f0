-- One path for each answer of the conversion.
use Rattle.delivery_csv.specs.laws.Paths.{refused_is, lasts}
use Rattle.delivery_csv.proofs.stream.convert_rest.Goals as goal

pub convert_before-requires : goal.convert_before-requires
convert_before-requires g c = search refused_is

pub returns-in-Ok : goal.returns-in-Ok
returns-in-Ok g c = record {
  answer = search lasts;
  bytes = search lasts;
}

pub returns-in-Err-Record : goal.returns-in-Err-Record
returns-in-Err-Record g c = record {
  answer = search lasts;
  bytes = search lasts;
}

pub returns-in-Err-Short : goal.returns-in-Err-Short
returns-in-Err-Short g c = record {
  answer = search lasts;
  bytes = search lasts;
}
