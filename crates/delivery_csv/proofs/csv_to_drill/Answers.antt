-- A refusal, or the text.
use Rattle.std.proofs.Common.{rules}
use Rattle.delivery_csv.specs.Converting.{drill_of_csv}
use Rattle.delivery_csv.specs.laws.Answers.{answers, bytes_written}
use Rattle.delivery_csv.specs.laws.RecordLoop.{records_emitted}
use Rattle.delivery_csv.proofs.csv_to_drill.Goals as goal

pub returns-in_err-written : goal.returns-in_err-written
returns-in_err-written c = record {
  answer = search (answers, rules);
  bytes = search (answers, rules);
}

pub returns : goal.returns
returns c = record {
  answer = search (answers, rules);
  bytes = bytes_written (drill_of_csv c.args.text.now) c.args.out.now c.judge.result (search (answers, rules)) c.in_ok-written.written c.write.result _ c.write.new.out (search rules) (λ t e. records_emitted c.args.text.now t e) c.write.ensures;
}
