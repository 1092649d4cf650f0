-- A report does not read the word of the weights: on any words s, whatever x stands there.
use Rattle.std.specs.Prelude.{ℕ, true, false, not, cond, ◌||◌, ◌≡◌, refl, length, Ok, Err}
use Rattle.std.proofs.Math.Bool.{Bool}
use mathlib.Core.List.{List}
use Rattle.std.proofs.Math.Path.{ap}
use Rattle.std.proofs.Common.{◌∙◌, arith}
use Rattle.std.proofs.Math.Dec.{ltb}
use Rattle.settings.specs.declared.refusal.Refusal.{Refusal}
use Rattle.settings.specs.declared.refusal.Refusal.TheVariants as refusal
use Rattle.records.specs.Layout.{turns_at, weights_at}
use Rattle.records.specs.Words.{put}
use Rattle.exits.specs.Exits.{Exit}
use Rattle.wire.specs.Message.{at_front}
use Rattle.unweighted.specs.Settings.{Settings, quorum}
use Rattle.unweighted.specs.Session.{settings_of, is_state}
use Rattle.unweighted.specs.Exits.{exit_now}
use Rattle.unweighted.specs.Report.{in_force_set, figures_of, giving, report_answer, report_named, report_in_force}
use Rattle.unweighted.proofs.laws.apart.Records.{word_apart, closed_apart}
use Rattle.unweighted.proofs.laws.apart.Rules.{leading_apart, exit_apart}
use Rattle.unweighted.proofs.laws.apart.Session.{settings_apart, state_apart, state_held}

module _ (s : List ℕ) (x : ℕ) where
  abbrev t : List ℕ
  t = put s weights_at x

  giving_apart : {A : Type 0} (named_words in_force_words : ℕ) (refused : Refusal → A) (a b : A) → (is_state s ≡ true → a ≡ b) → giving t named_words in_force_words refused a ≡ giving s named_words in_force_words refused b
  unfolding giving
  giving_apart {A} named_words in_force_words refused a b same = rw (state_apart s x) (at (is_state s) refl)
    where
      short : Bool
      short = ltb named_words 16 || ltb in_force_words 16

      at : (c : Bool) → is_state s ≡ c → cond (not c) (refused refusal.NoState) (cond short (refused refusal.Short) a) ≡ cond (not c) (refused refusal.NoState) (cond short (refused refusal.Short) b)
      at true e = ap (λ (y : A). cond short (refused refusal.Short) y) (same e)
      at false e = refl

  exit_in_apart : is_state s ≡ true → exit_now (settings_of t) t ≡ exit_now (settings_of s) s
  exit_in_apart e = ap (λ (g : Settings). exit_now g t) (settings_apart s x) ∙ exit_apart (settings_of s) (state_held s e).few s x

  in_force_apart : is_state s ≡ true → in_force_set (settings_of t) t ≡ in_force_set (settings_of s) s
  unfolding in_force_set
  in_force_apart e = rw (settings_apart s x, closed_apart s x, leading_apart (settings_of s) (state_held s e).few s x (quorum (settings_of s)))

  figures_apart : is_state s ≡ true → figures_of (settings_of t) t ≡ figures_of (settings_of s) s
  unfolding figures_of
  figures_apart e = rw (exit_in_apart e, in_force_apart e, word_apart s x turns_at (λ z. omega arith))

  pub report_answer_apart : (named_words in_force_words : ℕ) → report_answer t named_words in_force_words ≡ report_answer s named_words in_force_words
  unfolding report_answer
  report_answer_apart named_words in_force_words = giving_apart named_words in_force_words (λ k. Err k) _ _ (λ e. ap Ok (figures_apart e))

  pub report_named_apart : (named : List ℕ) (in_force_words : ℕ) → report_named t named in_force_words ≡ report_named s named in_force_words
  unfolding report_named
  report_named_apart named in_force_words =
      giving_apart (length named) in_force_words (λ k. named) _ _ (λ e. ap (λ (y : Exit). at_front y.names named) (exit_in_apart e))

  pub report_in_force_apart : (named_words : ℕ) (set_in_force : List ℕ) → report_in_force t named_words set_in_force ≡ report_in_force s named_words set_in_force
  unfolding report_in_force
  report_in_force_apart named_words set_in_force =
      giving_apart named_words (length set_in_force) (λ k. set_in_force) _ _ (λ e. ap (λ (set : List ℕ). at_front set set_in_force) (in_force_apart e))
