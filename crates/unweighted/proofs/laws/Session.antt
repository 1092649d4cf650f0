-- Words in which all weights are 1: whether they hold a state, and what is due there.
use Rattle.std.specs.Prelude.{ℕ, List, ◌≡◌}
use Rattle.std.proofs.Math.Path.{refl}
use Rattle.std.proofs.Common.{ap, ◌∙◌}
use Rattle.settings.specs.Versions as weighted_versions
use Rattle.records.specs.Layout.{n_at, ta_at, ts_at, weights_at}
use Rattle.records.specs.Words.{word}
use Rattle.session.specs.Session as weighted
use Rattle.exits.specs.Exits as weighted_now
use Rattle.turn.specs.Due as weighted_due
use Rattle.unweighted.specs.Settings.{Settings, turn_bound}
use Rattle.unweighted.specs.Session.{settings_of, numbers_right, is_state}
use Rattle.unweighted.specs.Exits.{exit_now}
use Rattle.unweighted.specs.Due.{commit_due, due}
use Rattle.unweighted.specs.Statement.{AllOne}
use Rattle.unweighted.proofs.laws.Counts.{Ones, plain, whole_count, valid_same}
use Rattle.unweighted.proofs.laws.Exits.{exit_now_same}
use Rattle.unweighted.proofs.laws.Due.{commit_due_same, due_same}

module _ (s : List ℕ) (all : AllOne s) where
  pub stored_ones : Ones (weighted.settings_of s)
  unfolding AllOne weighted.settings_of
  stored_ones = record { each = all; whole = whole_count (word s weights_at) (word s n_at) all }

  pub plain_same : plain (weighted.settings_of s) ≡ settings_of s
  unfolding weighted.settings_of settings_of
  plain_same = refl

  numbers_same : weighted.numbers_right (weighted.settings_of s) s ≡ numbers_right (settings_of s) s
  unfolding weighted.numbers_right weighted.settings_of weighted_versions.turn_bound numbers_right settings_of turn_bound
  numbers_same = refl

  pub state_same : weighted.is_state s ≡ is_state s
  unfolding AllOne weighted.is_state is_state
  state_same = rw (valid_same (word s weights_at) (word s n_at) all (word s ta_at) (word s ts_at), numbers_same)

  pub stored_exit : weighted_now.exit_now (weighted.settings_of s) s ≡ exit_now (settings_of s) s
  stored_exit = exit_now_same (weighted.settings_of s) stored_ones s ∙ ap (λ (g : Settings). exit_now g s) plain_same

  pub stored_commit : weighted_due.commit_due (weighted.settings_of s) s ≡ commit_due (settings_of s) s
  stored_commit = commit_due_same (weighted.settings_of s) stored_ones s ∙ ap (λ (g : Settings). commit_due g s) plain_same

  pub stored_due : weighted_due.due (weighted.settings_of s) s ≡ due (settings_of s) s
  stored_due = due_same (weighted.settings_of s) stored_ones s ∙ ap (λ (g : Settings). due g s) plain_same
