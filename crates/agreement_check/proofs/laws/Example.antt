-- The test `passes`: a list that passes it is an example.
use Rattle.std.specs.Prelude.{ℕ, Bool, false, ◌&&◌, ◌||◌, not, List, ◌≡◌, refl, eqb, take, Result, Ok, Err}
use Rattle.std.proofs.Math.Bool.{true}
use Rattle.std.proofs.lemmas.Bool.{false≢true}
use borrow.Author.Tests.{eqb-true, eqb-false, leb-true, not-true}
use Rattle.std.proofs.Math.Dec.{leb}
use Rattle.quorum.specs.laws.Bools.{and_left, and_right}
use Rattle.quorum.specs.Every.{every}
use Rattle.quorum.specs.laws.Every.{every_each}
use Rattle.records.specs.Words.{blank}
use Rattle.records.specs.laws.Fill.{length_blank}
use Rattle.report.specs.Report.{report_answer, report_named, report_in_force}
use Rattle.agreement.specs.Evidence.{liars, Honest}
use Rattle.calls.specs.Machine.{Call, words}
use Rattle.agreement.proofs.laws.Worlds.{world}
use Rattle.agreement.specs.DemandThree.{Opened}
use Rattle.calls.specs.Engine.{engine, Agreed, ReportNames, ReportEnforces}
use Rattle.agreement_check.proofs.laws.Lists.{conditions_met, put_in_met}
use Rattle.agreement_check.specs.Checking.{Entry, Gone, Run, is_opened, words_of, same_list, run}
use Rattle.agreement_check.proofs.laws.Entries.{or_second, not_of_true, same_list_lem}
use Rattle.agreement_check.proofs.laws.Tracks.{Tracks}
use Rattle.agreement_check.proofs.laws.Tracking.{AllSized, run_tracks}
use Rattle.agreement_check.specs.Example.{Shown, Supposed, Example, Sized}
use Rattle.report.specs.declared.Figures.{Figures}
use Rattle.settings.specs.declared.refusal.Refusal.{Refusal}

-- an answer of the report with these words for the sets: Exit k names X, and X is in force
unfoldable pub closes_with : Result Figures Refusal → List ℕ → List ℕ → ℕ → List ℕ → Bool
closes_with (Err j) named set_in_force k X = false
closes_with (Ok f) named set_in_force k X =
    not (eqb f.exit 0)
    && (eqb f.exit k
    && (same_list X (take f.named named)
    && (not (eqb f.in_force 0)
    && same_list X (take f.in_force set_in_force))))

unfoldable pub closes : List ℕ → ℕ → List ℕ → Bool
closes w k X = closes_with (report_answer w 16 16) (report_named w (blank 16) 16) (report_in_force w 16 (blank 16)) k X

module _ (S : Agreed) (H : ℕ → Bool) (v : ℕ → ℕ) where
  -- those of K end with the set X, which Exit k names
  unfoldable pub all_close : (K : ℕ → Bool) (k : ℕ) (X : List ℕ) → List Entry → Bool
  all_close K k X xs = every (λ p. not (K p) || is_opened xs p && closes (words_of xs p) k X) S.settings.n

  unfoldable pub ends : (K : ℕ → Bool) (k : ℕ) (X : List ℕ) → Run → Bool
  ends K k X r = r.right && all_close K k X r.states

  -- with liars of up to ts
  unfoldable pub passes_at : (K : ℕ → Bool) (k : ℕ) (X : List ℕ) → List (Call engine) → Bool
  passes_at K k X cs = leb (liars (world engine S H)) S.settings.ts && ends K k X (run S H v cs)

  -- with liars of up to ta, all honest ones
  unfoldable pub passes : ℕ → List ℕ → List (Call engine) → Bool
  passes k X cs = leb (liars (world engine S H)) S.settings.ta && passes_at H k X cs

pub record Closed (w : List ℕ) (k : ℕ) (X : List ℕ) : Type 0 where
  pub named : ReportNames w X
  pub exit : named.figures.exit ≡ k
  pub by_in_force : ReportEnforces w X

closes_closed : (w : List ℕ) (k : ℕ) (X : List ℕ) → closes w k X ≡ true → Closed w k X
unfolding closes closes_with
closes_closed w k X = go (report_answer w 16 16) refl
  where
    go : (a : Result Figures Refusal) → report_answer w 16 16 ≡ a → closes_with a (report_named w (blank 16) 16) (report_in_force w 16 (blank 16)) k X ≡ true → Closed w k X
    go (Err j) g e = absurd (false≢true e)
    go (Ok f) g e =
        let e1 = and_right (not (eqb f.exit 0)) _ e in
        let e2 = and_right (eqb f.exit k) _ e1 in
        let e3 = and_right (same_list X (take f.named (report_named w (blank 16) 16))) _ e2 in
        record {
          named = record {
            lent = blank 16;
            room = length_blank 16;
            figures = f;
            given = g;
            exit = eqb-false f.exit 0 (not-true (eqb f.exit 0) (and_left (not (eqb f.exit 0)) _ e));
            set = same_list_lem X _ (and_left (same_list X (take f.named (report_named w (blank 16) 16))) _ e2);
          };
          exit = eqb-true f.exit k (and_left (eqb f.exit k) _ e1);
          by_in_force = record {
            lent = blank 16;
            room = length_blank 16;
            figures = f;
            given = g;
            some = eqb-false f.in_force 0 (not-true (eqb f.in_force 0) (and_left (not (eqb f.in_force 0)) _ e3));
            set = same_list_lem X _ (and_right (not (eqb f.in_force 0)) _ e3);
          };
        }

module _ (start : ℕ → List ℕ) (S : Agreed) (H : ℕ → Bool) (v : ℕ → ℕ) (cs : List (Call engine)) (room : Sized start S H) (sized : AllSized cs) (k : ℕ) (X : List ℕ) where
  -- what is known after a list that passes
  pub record Passed (K : ℕ → Bool) : Type 0 where
    pub supposed : Supposed start S H v cs
    pub shown : (p : ℕ) → Honest (world engine S H) p → K p ≡ true → Shown start cs p k X
    pub tracks : Tracks start S H v cs (run S H v cs).states (run S H v cs).gone

  ended : (K : ℕ → Bool) {xs : List Entry} {gs : List Gone} → Tracks start S H v cs xs gs → all_close S H v K k X xs ≡ true → (p : ℕ) → Honest (world engine S H) p → K p ≡ true → Shown start cs p k X
  unfolding all_close
  ended K {xs = xs} x e p h t =
      let d = or_second (not (K p)) _ (every_each _ S.settings.n e p h.low h.high) (not_of_true (K p) t) in
      let o : is_opened xs p ≡ true = and_left (is_opened xs p) (closes (words_of xs p) k X) d in
      let c = closes_closed (words_of xs p) k X (and_right (is_opened xs p) (closes (words_of xs p) k X) d) in
      shown_by p (x.some p o) (rw (x.equal p o) c)
    where
      shown_by : (p : ℕ) → Opened engine start cs p → Closed (words engine start cs p) k X → Shown start cs p k X
      shown_by p o c = record { opened = o; named = c.named; exit = c.exit; by_in_force = c.by_in_force }

  pub passes_at_lem : (K : ℕ → Bool) → passes_at S H v K k X cs ≡ true → Passed K
  unfolding passes_at ends
  passes_at_lem K e =
      let e1 = and_right (leb (liars (world engine S H)) S.settings.ts) _ e in
      let x = run_tracks start S H v room cs sized (and_left (run S H v cs).right _ e1) in
      record {
        supposed = record {
          few_ts = leb-true _ _ (and_left (leb (liars (world engine S H)) S.settings.ts) _ e);
          conditions = conditions_met engine start S H v cs x.meet;
          put_in = put_in_met engine start S H v cs x.meet;
        };
        shown = ended K x (and_right (run S H v cs).right _ e1);
        tracks = x;
      }

  pub passes_example : passes S H v k X cs ≡ true → Example start S H v cs k X
  unfolding passes
  passes_example e =
      let few = leb (liars (world engine S H)) S.settings.ta in
      let x = passes_at_lem H (and_right few _ e) in
      record { few_ta = leb-true _ _ (and_left few _ e); supposed = x.supposed; shown = λ p h. x.shown p h h.fair }
