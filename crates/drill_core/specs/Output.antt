-- What a drill prints: a line for each honest one and the number of messages, or the number of the bad line alone (PROTOCOL 15.15, 15.16).
use Rattle.std.specs.Prelude.{ℕ, zero, suc, Bool, cond, List, [], ◌++◌, take, Result, Ok, Err}
use Rattle.quorum.specs.Marks.{mark}
use Rattle.records.specs.Records.{closed}
use Rattle.records.specs.Words.{blank}
use Rattle.report.specs.Report.{report_answer, report_in_force}
use Rattle.drill_lines.specs.Text.{result_line, sent_line, bad_line}
use Rattle.drill_feeder.specs.Parts.{state_of}
use Rattle.drill_feeder.specs.declared.Members.{Members}
use Rattle.drill_core.specs.Judging.{after_settings}
use Rattle.drill_core.specs.Feeding.{Drilling, drilling, start_drilling, fed_bytes, at_end}
use Rattle.drill_core.specs.declared.Drill.{Drill}
use Rattle.report.specs.declared.Figures.{Figures}
use Rattle.settings.specs.declared.refusal.Refusal.{Refusal}

-- the line of p by its report; the report of an open session is given
unfoldable pub answer_text : ℕ → Result Figures Refusal → Bool → List ℕ → List ℕ
answer_text p (Err k) c values = result_line p 0 (cond c 1 0) 0 (take 0 values)
answer_text p (Ok f) c values = result_line p f.exit (cond c 1 0) f.turns (take f.in_force values)

-- number, exit, closed or not, count of turns, packs in force (PROTOCOL 15.15): the report is lent 16 words for each set
unfoldable pub result_text : ℕ → List ℕ → List ℕ
result_text p s = answer_text p (report_answer s 16 16) (closed s) (report_in_force s 16 (blank 16))

unfoldable pub result_if : ℕ → List ℕ → ℕ → List ℕ
result_if honest w p = cond (mark honest p) (result_text p (state_of w p)) []

-- one line for every honest one of 1 to n (PROTOCOL 15.15)
unfoldable pub results : ℕ → List ℕ → ℕ → List ℕ
results honest w zero = []
results honest w (suc n) = results honest w n ++ result_if honest w (suc n)

unfoldable pub summary : Members → ℕ → List ℕ → List ℕ
summary g sent w = results g.honest w g.n ++ sent_line sent

-- after a bad line, and where no line was taken, `bad` and the number of the line
unfoldable pub drill_text : List ℕ → Drill → List ℕ
drill_text w d = cond (after_settings d.state.phase) (summary d.state.given.members d.state.counts.sent w) (bad_line d.number)

unfoldable pub printed : Drilling → List ℕ
printed (drilling w m d) = drill_text w d

-- the whole drill, from the bytes of its input to those of its output
unfoldable pub drill_output : List ℕ → List ℕ
drill_output input = printed (at_end (fed_bytes start_drilling input))
