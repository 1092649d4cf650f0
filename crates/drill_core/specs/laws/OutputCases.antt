-- The cases of the code that prints.
use Rattle.std.specs.Prelude.{◌≡◌, ℕ, suc, ◌+◌, ◌<◌, ◌≤◌, Bool, List, [], refl, Result}
use Rattle.std.proofs.Common.{subst, arith, add-one}
use Rattle.records.specs.Records.{closed}
use Rattle.records.specs.Words.{blank}
use Rattle.report.specs.Report.{report_answer, report_in_force}
use Rattle.report.specs.declared.Figures.{Figures}
use Rattle.drill_lines.specs.Text.{sent_line}
use Rattle.text.specs.Paste.{Wrote, ended, pasted}
use Rattle.text.specs.laws.Paste.{wrote_both}
use Rattle.drill_feeder.specs.Parts.{state_of}
use Rattle.drill_feeder.specs.declared.Members.{Members}
use Rattle.drill_core.specs.Output.{answer_text, result_text, result_if, results, summary}
use Rattle.settings.specs.declared.refusal.Refusal.{Refusal}

pub session_printed : (p at r x y : ℕ) (a : Result Figures Refusal) (c : Bool) (w v u s after : List ℕ) → a ≡ report_answer (state_of w p) x y → c ≡ closed (state_of w p) →
    v ≡ report_in_force (state_of w p) x u → x ≡ 16 → y ≡ 16 → u ≡ blank 16 → Wrote (answer_text p a c v) s at r after → Wrote (result_text p (state_of w p)) s at r after
unfolding result_text
session_printed p at r x y a c w v u s after e f g h i j q = subst (λ (t : List ℕ). Wrote t s at r after) (rw (e, f, g, h, i, j)) q

nothing : (s : List ℕ) (at : ℕ) → Wrote [] s at at s
unfolding ended pasted
nothing s at = record { answer = refl; bytes = refl }

-- a loop that has printed the lines of 1 to k
pub record Printing (honest n : ℕ) (w s : List ℕ) (k r : ℕ) (after : List ℕ) : Type 0 where
  pub within : k ≤ n
  pub front : Wrote (results honest w k) s 0 r after

pub printing_start : (honest n : ℕ) (w s : List ℕ) → Printing honest n w s 0 0 s
unfolding results
printing_start honest n w s = record { within = omega arith; front = nothing s 0 }

pub printing_next : (honest n k r q : ℕ) (w s s' s'' : List ℕ) → Printing honest n w s k r s' → k < n → Wrote (result_if honest w (k + 1)) s' r q s'' → Printing honest n w s (k + 1) q s''
unfolding results
printing_next honest n k r q w s s' s'' h l e =
    record {
      within = omega arith;
      front = rw add-one (wrote_both (results honest w k) (result_if honest w (suc k)) s s' s'' 0 r q h.front (rw add-one at e));
    }

pub ruleset printing = (printing_start, printing_next)

pub summary_printed : (g : Members) (sent count r q : ℕ) (w s s' s'' : List ℕ) → count ≡ sent → Wrote (results g.honest w g.n) s 0 r s' → Wrote (sent_line count) s' r q s'' →
    Wrote (summary g sent w) s 0 q s''
unfolding summary
summary_printed g sent count r q w s s' s'' e h l = rw (← e) (wrote_both (results g.honest w g.n) (sent_line count) s s' s'' 0 r q h l)
