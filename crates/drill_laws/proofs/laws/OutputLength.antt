-- The output of a drill has at most 2,048 bytes, so that as many lent bytes hold all of it.
use Rattle.std.specs.Prelude.{ℕ, zero, suc, ◌+◌, ◌*◌, ◌≤◌, List, [], ◌∷◌, ◌≡◌, refl, length, take, eqb, Result, Ok, Err}
use Rattle.std.proofs.Common.{ap, ◌∙◌, arith, length-append, length-take}
use Rattle.settings.specs.Settings.{quorum}
use Rattle.settings.specs.declared.Settings.{Settings}
use Rattle.quorum.specs.Marks.{mark}
use Rattle.records.specs.Records.{closed, commit_count, commit_set}
use Rattle.records.specs.Words.{blank}
use Rattle.commits.specs.Commits.{set_leader, set_of, leading_set}
use Rattle.session.specs.Session.{settings_of}
use Rattle.report.specs.Report.{in_force_set, figures_of, report_answer, report_in_force}
use Rattle.report.specs.laws.Report.{Reported, reported}
use Rattle.report.specs.declared.Figures.{Figures}
use Rattle.text.specs.Numbers.{hex_text}
use Rattle.text.specs.Fields.{each_text}
use Rattle.text.specs.laws.Lengths.{decimal_length, hex_length}
use Rattle.drill_lines.specs.Text.{comma_text, values_text, number_text, result_line, sent_line, bad_line}
use Rattle.text.specs.laws.Paste.{wrote_whole}
use Rattle.drill_feeder.specs.Parts.{state_of}
use Rattle.drill_core.specs.Judging.{after_settings}
use Rattle.drill_core.specs.Feeding.{Drilling, drilling, fed_bytes, start_drilling, at_end}
use Rattle.drill_core.specs.Output.{answer_text, result_text, result_if, results, summary, drill_text, printed, drill_output}
use Rattle.drill_laws.proofs.laws.Runs.{if_keep}
use Rattle.drill_laws.proofs.laws.Whole.{SoundDrill, input_sound, end_sound}
use Rattle.drill_laws.specs.OutputLength.{OutputWhole}
use Rattle.settings.specs.declared.refusal.Refusal.{Refusal}

commas_length : (xs : List ℕ) → length (each_text comma_text xs) ≡ 17 * length xs
unfolding each_text comma_text
commas_length [] = refl
commas_length (x ∷ xs) = ap suc (length-append (hex_text x) (each_text comma_text xs)) ∙ omega (arith, hex_length x, commas_length xs)

values_length : (xs : List ℕ) → length (values_text xs) ≤ 17 * length xs + 1
unfolding values_text
values_length [] = omega arith
values_length (x ∷ xs) = rw length-append (omega (arith, hex_length x, commas_length xs))

number_length : (n after : ℕ) → length (number_text n after) ≤ 21
unfolding number_text
number_length n after = rw length-append (omega (arith, decimal_length n))

-- a line with at most 16 values
line_length_lem : (n e c t : ℕ) (xs : List ℕ) → length xs ≤ 16 → length (result_line n e c t xs) ≤ 358
unfolding result_line
line_length_lem n e c t xs h =
    simp length-append (omega (arith, number_length n 9, number_length e 9, number_length c 9, number_length t 9, values_length xs))

sent_length_lem : (n : ℕ) → length (sent_line n) ≤ 26
unfolding sent_line
sent_length_lem n = rw length-append (omega (arith, number_length n 10))

bad_length : (n : ℕ) → length (bad_line n) ≤ 26
unfolding bad_line
bad_length n = rw length-append (omega (arith, number_length n 10))

-- a set in force has at most 16 values
set_few : (g : Settings) (s : List ℕ) → length (in_force_set g s) ≤ 16
unfolding in_force_set leading_set set_of commit_set commit_count
set_few g s =
    if_keep (λ (t : List ℕ). length t ≤ 16) (closed s) _ _
    (if_keep (λ (t : List ℕ). length t ≤ 16) (eqb (set_leader g s (quorum g)) 0) _ _ (omega arith) (rw length-take (omega arith)))
    (omega arith)

in_force_few : (s : List ℕ) (f : Figures) → Reported s f → f.in_force ≤ 16
unfolding figures_of
in_force_few s f r = rw r.same (set_few (settings_of s) s)

result_length : (p : ℕ) (s : List ℕ) → length (result_text p s) ≤ 358
unfolding result_text answer_text
result_length p s = go (report_answer s 16 16) refl
  where
    go : (a : Result Figures Refusal) → report_answer s 16 16 ≡ a → length (answer_text p a (closed s) (report_in_force s 16 (blank 16))) ≤ 358
    go (Err k) e = line_length_lem p 0 _ 0 (take 0 (report_in_force s 16 (blank 16))) (omega arith)
    go (Ok f) e =
        line_length_lem p f.exit _ f.turns (take f.in_force (report_in_force s 16 (blank 16)))
        (rw length-take (omega (arith, in_force_few s f (reported s 16 16 f e))))

results_length : (honest : ℕ) (w : List ℕ) (n : ℕ) → length (results honest w n) ≤ 358 * n
unfolding results result_if
results_length honest w zero = omega arith
results_length honest w (suc n) =
    let l : length (result_if honest w (suc n)) ≤ 358 =
    if_keep (λ (t : List ℕ). length t ≤ 358) (mark honest (suc n)) _ _ (result_length (suc n) (state_of w (suc n))) (omega arith) in
    rw length-append (omega (arith, results_length honest w n, l))

printed_length : (x : Drilling) → SoundDrill x → length (printed x) ≤ 2048
unfolding printed drill_text summary
printed_length (drilling w m d) h =
    if_keep (λ (t : List ℕ). length t ≤ 2048) (after_settings d.state.phase) _ _
    (rw length-append (omega (arith, results_length d.state.given.members.honest w d.state.given.members.n, sent_length_lem d.state.counts.sent, h.few)))
    (omega (arith, bad_length d.number))

pub output_short : (input : List ℕ) → length (drill_output input) ≤ 2048
unfolding drill_output
output_short input = printed_length (at_end (fed_bytes start_drilling input)) (end_sound (fed_bytes start_drilling input) (input_sound input))

pub output_whole : OutputWhole
unfolding OutputWhole
output_whole input out after r l w = (wrote_whole (drill_output input) out after 0 r w (omega (arith, output_short input))).text
