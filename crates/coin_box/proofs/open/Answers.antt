-- The weights as one word, then the box.
use Rattle.coin_box.proofs.laws.Cases.{given_answer, given_words}
use Rattle.coin_box.proofs.open.Goals as goal

pub returns : goal.returns
returns c = record {
  answer = search given_answer;
  words = search given_words;
}
