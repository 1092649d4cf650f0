-- The laws of ended parts, for records and for lines.
use Rattle.std.specs.Prelude.{Bool, true, false, ◌≡◌, refl}
use Rattle.std.proofs.Common.{◌∙◌}
use Rattle.text.specs.Fields.{LF}
use Rattle.delivery_csv.specs.Records.{turned, without_cr, records_in, record_right, record_fields, records_read}
use Rattle.delivery_csv.specs.Lines.{unturned, whole_line, lines_in, line_right, line_fields, lines_read}
use Rattle.delivery_csv.specs.Blocks.{complete}
use Rattle.delivery_csv.specs.Parts.{turned_if, ended_part, PartsEnded}
use Rattle.delivery_csv.specs.laws.Parts.{part_within, part_few, part_ended, part_counted, part_rest_unended, line_ended, read_length}
use Rattle.delivery_csv.specs.laws.Short.{record_short, line_short, records_too_long, lines_too_long}

quiet : (quotes : Bool) → turned_if quotes false LF ≡ false
unfolding turned_if turned unturned
quiet true = refl
quiet false = refl

pub parts_ended : PartsEnded
unfolding ended_part turned_if complete records_read records_in lines_read lines_in
parts_ended =
    record {
      within = λ quotes t most. part_within (turned_if quotes) (quiet quotes) t most;
      at_most = λ quotes t most. part_few (turned_if quotes) (quiet quotes) t most;
      records_complete = λ t most. part_ended turned (quiet true) t most;
      lines_complete = λ t most. line_ended _ (part_ended unturned (quiet false) t most);
      records_counted = λ t most rs e. read_length record_right record_fields 1 _ rs e ∙ part_counted turned (quiet true) t most without_cr;
      lines_counted = λ t most rs e. read_length line_right line_fields 1 _ rs e ∙ part_counted unturned (quiet false) t most whole_line;
      rest_unended = λ quotes t most l. part_rest_unended (turned_if quotes) (quiet quotes) t most l;
      records_short = record_short;
      lines_short = line_short;
      records_too_long = records_too_long;
      lines_too_long = lines_too_long;
    }
