-- A refusal, or the text.
use Rattle.std.proofs.Common.{rules}
use Rattle.delivery_csv.specs.Converting.{csv_of_drill}
use Rattle.delivery_csv.specs.laws.Answers.{answers, bytes_written}
use Rattle.delivery_csv.specs.laws.LineTheorem.{lines_judge, lines_emitted}
use Rattle.delivery_csv.proofs.drill_to_csv.Goals as goal

pub returns-in_err-written : goal.returns-in_err-written
returns-in_err-written c = record {
  answer = search (answers, lines_judge, rules);
  bytes = search (answers, lines_judge, rules);
}

pub returns : goal.returns
returns c = record {
  answer = search (answers, lines_judge, rules);
  bytes = bytes_written (csv_of_drill c.args.text.now) c.args.out.now c.judge.result (search (answers, lines_judge, rules)) c.in_ok-written.written c.write.result _ c.write.new.out (search rules) (λ t e. lines_emitted c.args.text.now t e) c.write.ensures;
}
