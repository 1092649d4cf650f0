-- A recording in words in which all weights are 1.
use Rattle.std.specs.Prelude.{ℕ, List, ◌≡◌, Result}
use Rattle.std.specs.Result.{is_ok}
use Rattle.settings.specs.declared.refusal.Refusal.{Refusal}
use Rattle.std.proofs.Math.Bool.{cond}
use Rattle.std.proofs.Math.Path.{ap}
use Rattle.recording.specs.Recording.{with_bit}
use Rattle.recording.specs.Recording as weighted
use Rattle.unweighted.specs.Recording.{record_answer, recorded_words}
use Rattle.unweighted.specs.Statement.{AllOne}
use Rattle.unweighted.proofs.laws.Session.{state_same}

module _ (s : List ℕ) (all : AllOne s) (i r b : ℕ) where
  pub record_answer_same : weighted.record_answer s i r b ≡ record_answer s i r b
  unfolding weighted.record_answer record_answer
  record_answer_same = rw (state_same s all)

  pub recorded_same : weighted.recorded_words s i r b ≡ recorded_words s i r b
  unfolding weighted.recorded_words recorded_words
  recorded_same = ap (λ (a : Result (Unit {0}) Refusal). cond (is_ok a) (with_bit s i r b) s) record_answer_same
