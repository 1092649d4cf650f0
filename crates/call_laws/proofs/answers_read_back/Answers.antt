-- `answers_read_back` states the theorem of proofs/laws/ReadBack.antt.
use Rattle.call_laws.proofs.laws.ReadBack.{answers_read_back}
use Rattle.call_laws.proofs.answers_read_back.Goals as goal

pub returns : goal.returns
returns c = answers_read_back
