-- The theorem of specs/laws/Stream.antt.
use Rattle.delivery_csv.specs.laws.Stream.{streamed_as_whole}
use Rattle.delivery_csv.proofs.streamed.Goals as goal

pub returns : goal.returns
returns c = streamed_as_whole
