-- A report on words in which all weights are 1.
use Prim.Native.Nat.{ℕ}
use Rattle.std.specs.Prelude.{Bool, ◌||◌, not, ◌≡◌, Ok, Err}
use Rattle.std.proofs.Math.Bool.{true, false, cond}
use mathlib.Core.List.{List, []}
use Rattle.std.proofs.Math.Path.{refl, ap, ap₂}
use Rattle.std.proofs.Common.{◌∙◌}
use Rattle.std.proofs.Math.Dec.{ltb}
use Rattle.std.proofs.Math.ListN.{length}
use Rattle.settings.specs.declared.refusal.Refusal.{Refusal}
use Rattle.settings.specs.declared.refusal.Refusal.TheVariants as refusal
use Rattle.settings.specs.declared.Settings.{Settings}
use Rattle.records.specs.Layout.{turns_at}
use Rattle.records.specs.Words.{word}
use Rattle.records.specs.Records.{closed}
use Rattle.session.specs.Session as weighted_session
use Rattle.exits.specs.Exits.{Exit}
use Rattle.report.specs.Report as weighted
use Rattle.report.specs.declared.Figures.{Figures}
use Rattle.unweighted.specs.Session.{settings_of}
use Rattle.unweighted.specs.Report.{in_force_set, figures_of, giving, report_answer, report_named, report_in_force}
use Rattle.unweighted.specs.Statement.{AllOne}
use Rattle.unweighted.proofs.laws.Session.{stored_ones, state_same, stored_exit}
use Rattle.unweighted.proofs.laws.Counts.{quorum_same}
use Rattle.unweighted.proofs.laws.Commits.{leading_set_same}
use Rattle.wire.specs.Message.{at_front}

module _ (s : List ℕ) (all : AllOne s) where
  -- what the refusals give in their order, or the settings
  module _ {A : Type 0} (refused : Refusal → A) (done : Settings → A) (named_words in_force_words : ℕ) where
    abbrev made : Bool → Bool → A
    made t l = cond (not t) (refused refusal.NoState) (cond l (refused refusal.Short) (done (weighted_session.settings_of s)))

    by_tests : (t l : Bool) → weighted.giving (cond (not t) (Err refusal.NoState) (cond l (Err refusal.Short) (Ok (weighted_session.settings_of s)))) refused done ≡ made t l
    unfolding weighted.giving
    by_tests false l = refl
    by_tests true true = refl
    by_tests true false = refl

    given : weighted.giving (weighted.admits s named_words in_force_words) refused done ≡ giving s named_words in_force_words refused (done (weighted_session.settings_of s))
    unfolding weighted.admits giving
    given = by_tests (weighted_session.is_state s) (ltb named_words 16 || ltb in_force_words 16) ∙ ap (λ (t : Bool). made t (ltb named_words 16 || ltb in_force_words 16)) (state_same s all)

  in_force_same : weighted.in_force_set (weighted_session.settings_of s) s ≡ in_force_set (settings_of s) s
  unfolding weighted.in_force_set weighted_session.settings_of in_force_set settings_of
  in_force_same =
      ap (λ (set : List ℕ). cond (closed s) set [])
      (leading_set_same (weighted_session.settings_of s) (stored_ones s all) s _ _ (quorum_same (weighted_session.settings_of s) (stored_ones s all)))

  figures_same : weighted.figures_of (weighted_session.settings_of s) s ≡ figures_of (settings_of s) s
  unfolding weighted.figures_of figures_of
  figures_same = ap₂ (λ (x : Exit) (set : List ℕ). figures x set) (stored_exit s all) in_force_same
    where
      figures : Exit → List ℕ → Figures
      figures x set = record { exit = x.number; named = length x.names; in_force = length set; turns = word s turns_at }

  pub report_answer_same : (named_words in_force_words : ℕ) → weighted.report_answer s named_words in_force_words ≡ report_answer s named_words in_force_words
  unfolding weighted.report_answer report_answer
  report_answer_same named_words in_force_words =
      given Err _ named_words in_force_words
      ∙ ap (λ (x : Figures). giving s named_words in_force_words Err (Ok x)) figures_same

  pub report_named_same : (named : List ℕ) (in_force_words : ℕ) → weighted.report_named s named in_force_words ≡ report_named s named in_force_words
  unfolding weighted.report_named report_named
  report_named_same named in_force_words =
      given (λ k. named) _ (length named) in_force_words
      ∙ ap (λ (x : Exit). giving s (length named) in_force_words (λ k. named) (at_front x.names named)) (stored_exit s all)

  pub report_in_force_same : (named_words : ℕ) (set_in_force : List ℕ) → weighted.report_in_force s named_words set_in_force ≡ report_in_force s named_words set_in_force
  unfolding weighted.report_in_force report_in_force
  report_in_force_same named_words set_in_force =
      given (λ k. set_in_force) _ named_words (length set_in_force)
      ∙ ap (λ (set : List ℕ). giving s named_words (length set_in_force) (λ k. set_in_force) (at_front set set_in_force)) in_force_same
