-- What holds of the words after an accepted opening with a version and settings and any calls; such words hold a state.
use Rattle.std.specs.Prelude.{ℕ, ◌≤◌, true, List, ◌≡◌, length}
use Rattle.std.proofs.Math.Path.{ap}
use native.Mathlib.Omega.{arith}
use Rattle.settings.specs.Versions.{turn_bound}
use Rattle.settings.specs.Rules.{Ruled}
use Rattle.settings.specs.laws.Versions.{Known, turn_bound_sum}
use Rattle.settings.specs.declared.Settings.{Settings}
use Rattle.records.specs.Layout.{n_at, own_at, turns_at, boxed_at, commit_count_at}
use Rattle.records.specs.Records.{version}
use Rattle.records.specs.Words.{word}
use Rattle.session.specs.Session.{settings_of, is_state}
use Rattle.session.specs.laws.Session.{State, state_is}
use Rattle.turn_bound.specs.TurnBound.{Terms, terms_of}
use Rattle.turn_bound.proofs.laws.Potential.{potential_few}
use Rattle.turn_bound.proofs.laws.Finishes.{measure, Sent, finishes_few}
use Rattle.turn_bound.proofs.laws.Rounds.{Orderly}

pub record Sound (k : Terms) (s : List ℕ) : Type 0 where
  pub size : length s ≡ 2048
  pub terms : terms_of s ≡ k
  pub known : Known k.version
  pub own_low : 1 ≤ word s own_at
  pub own_high : word s own_at ≤ k.settings.n
  pub kind : word s boxed_at ≤ 1
  pub counts : (p : ℕ) → 1 ≤ p → p ≤ k.settings.n → word s (commit_count_at p) ≤ k.settings.n
  pub orderly : Orderly k.settings.n s
  pub sent : Sent k.version k.settings.n s
  pub turns : word s turns_at ≡ measure k.settings.n s

module _ (k : Terms) (ruled : Ruled k.settings) (s : List ℕ) (h : Sound k s) where
  pub same_settings : settings_of s ≡ k.settings
  same_settings = ap (λ (x : Terms). x.settings) h.terms

  pub same_version : version s ≡ k.version
  same_version = ap (λ (x : Terms). x.version) h.terms

  same_n : word s n_at ≡ k.settings.n
  unfolding settings_of
  same_n = ap (λ (x : Settings). x.n) same_settings

  -- the turn bound (PROTOCOL 8.20)
  pub sound_bound : word s turns_at ≤ turn_bound k.version k.settings
  unfolding measure
  sound_bound =
      omega (
        arith,
        h.turns,
        potential_few k.settings.n s,
        finishes_few k.version k.settings.n s h.sent,
        turn_bound_sum k.version k.settings,
      )

  sound_held : State s
  sound_held =
      record {
        size = h.size;
        ruled = rw same_settings ruled;
        own_low = h.own_low;
        own_high = rw same_n h.own_high;
        kind = h.kind;
        known = rw same_version h.known;
        turns = rw (same_settings, same_version) sound_bound;
        rounds = λ i low high. h.orderly.rounds i low (omega (arith, same_n));
        counts = λ p low high. rw same_n (h.counts p low (omega (arith, same_n)));
      }

  pub sound_state : is_state s ≡ true
  sound_state = state_is s sound_held
