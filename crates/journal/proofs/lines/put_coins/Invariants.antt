-- `put_coins` writes word by word: after k turns the first k.
use Rattle.text.specs.laws.Each.{Each}
use Rattle.journal.specs.laws.Parts.{tab_word}
use Rattle.journal.proofs.lines.put_coins.Given as goal

abbrev pub invariant-loop-coin : goal.invariant-loop-coin
invariant-loop-coin l = Each tab_word l.coins l.initial.out l.at l.coin-index l.place l.out
