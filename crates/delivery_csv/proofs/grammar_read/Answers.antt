-- The theorem of specs/laws/GrammarOnly.antt.
use Rattle.delivery_csv.specs.laws.GrammarOnly.{grammar_read}
use Rattle.delivery_csv.proofs.grammar_read.Goals as goal

pub returns : goal.returns
returns c = grammar_read
