-- When a lent buffer holds a state: the refusal 9, NO STATE.
-- What a buffer that holds a state tells.
use Rattle.std.specs.Prelude.{ℕ, ◌≤◌, Bool, ◌&&◌, cond, true, false, List, length, eqb, leb, ◌≡◌, refl, Option, Some, None}
use Rattle.settings.specs.Settings.{valid_settings, moved_out_round}
use Rattle.settings.specs.Versions.{version_known, turn_bound}
use Rattle.settings.specs.laws.Versions.{Known, version_known_lem, known_version}
use Rattle.settings.specs.declared.Settings.{Settings}
use Rattle.quorum.specs.Every.{every}
use Rattle.records.specs.Layout.{n_at, ta_at, ts_at, own_at, weights_at, boxed_at, turns_at, round_at, commit_count_at}
use Rattle.records.specs.Records.{version}
use Rattle.records.specs.Words.{word}
use Rattle.session.specs.declared.Session.{Session}
use Rattle.session.specs.Session.{numbered, rounds_right, commits_right, numbers_right, settings_of, is_state, session_with, session_of, stored}
use Rattle.std.proofs.Common.{arith, eqb-true, eq-eqb, leb-true, le-leb}
use Rattle.quorum.specs.laws.Bools.{and_left, and_right}
use Rattle.settings.specs.Rules.{Ruled}
use Rattle.settings.specs.laws.Rules.{valid_rules, rules_valid}
use Rattle.quorum.specs.laws.Every.{every_each, each_every}

-- what the one walk over 1 to n asks of each number
unfoldable pub place_right : List ℕ → ℕ → ℕ → Bool
place_right s n k = leb (word s (round_at k)) moved_out_round && leb (word s (commit_count_at k)) n

unfoldable pub stored_with : Settings → List ℕ → Option Session
stored_with g s = cond (numbers_right g s) (Some (session_with g s)) None

pub record State (s : List ℕ) : Type 0 where
  pub size : length s ≡ 2048
  pub ruled : Ruled (settings_of s)
  pub own_low : 1 ≤ word s own_at
  pub own_high : word s own_at ≤ word s n_at
  pub kind : word s boxed_at ≤ 1
  pub known : Known (version s)
  pub turns : word s turns_at ≤ turn_bound (version s) (settings_of s)
  pub rounds : (i : ℕ) → 1 ≤ i → i ≤ word s n_at → word s (round_at i) ≤ 33
  pub counts : (p : ℕ) → 1 ≤ p → p ≤ word s n_at → word s (commit_count_at p) ≤ word s n_at

pub is_state_lem : (s : List ℕ) → is_state s ≡ true → State s
unfolding is_state numbers_right numbered rounds_right commits_right settings_of
is_state_lem s e =
    let n = word s n_at in
    let sized = eqb (length s) 2048 in
    let valid = valid_settings n (word s ta_at) (word s ts_at) (word s weights_at) in
    let low = leb 1 (word s own_at) in
    let high = leb (word s own_at) n in
    let kind = leb (word s boxed_at) 1 in
    let known = version_known (version s) in
    let bound = leb (word s turns_at) (turn_bound (version s) (settings_of s)) in
    let rounds = every (λ i. leb (word s (round_at i)) 33) n in
    let counts = every (λ p. leb (word s (commit_count_at p)) n) n in
    let a = and_left (sized && valid) ((low && high) && kind && known && bound && rounds && counts) e in
    let b = and_right (sized && valid) ((low && high) && kind && known && bound && rounds && counts) e in
    let c = and_left ((low && high) && kind && known && bound && rounds) counts b in
    let d = and_left ((low && high) && kind && known && bound) rounds c in
    let f = and_left ((low && high) && kind && known) bound d in
    let k = and_left ((low && high) && kind) known f in
    let o = and_left (low && high) kind k in
    record {
      size = eqb-true (length s) 2048 (and_left sized valid a);
      ruled = valid_rules n (word s ta_at) (word s ts_at) (word s weights_at) (and_right sized valid a);
      own_low = leb-true 1 (word s own_at) (and_left low high o);
      own_high = leb-true (word s own_at) n (and_right low high o);
      kind = leb-true (word s boxed_at) 1 (and_right (low && high) kind k);
      known = version_known_lem (version s) (and_right ((low && high) && kind) known f);
      turns = leb-true (word s turns_at) (turn_bound (version s) (settings_of s)) (and_right ((low && high) && kind && known) bound d);
      rounds = λ i lo hi. leb-true (word s (round_at i)) 33 (every_each (λ j. leb (word s (round_at j)) 33) n (and_right ((low && high) && kind && known && bound) rounds c) i lo hi);
      counts = λ p lo hi. leb-true (word s (commit_count_at p)) n (every_each (λ j. leb (word s (commit_count_at j)) n) n (and_right ((low && high) && kind && known && bound && rounds) counts b) p lo hi);
    }

pub state_is : (s : List ℕ) → State s → is_state s ≡ true
unfolding is_state numbers_right numbered rounds_right commits_right settings_of
state_is s h =
    rw (
      eq-eqb (length s) 2048 h.size,
      rules_valid (word s n_at) (word s ta_at) (word s ts_at) (word s weights_at) h.ruled,
      le-leb 1 (word s own_at) h.own_low,
      le-leb (word s own_at) (word s n_at) h.own_high,
      le-leb (word s boxed_at) 1 h.kind,
      known_version (version s) h.known,
      le-leb (word s turns_at) (turn_bound (version s) (settings_of s)) h.turns,
      each_every (λ i. leb (word s (round_at i)) 33) (word s n_at) (λ i low high. le-leb (word s (round_at i)) 33 (h.rounds i low high)),
      each_every (λ p. leb (word s (commit_count_at p)) (word s n_at)) (word s n_at) (λ p low high. le-leb (word s (commit_count_at p)) (word s n_at) (h.counts p low high)),
    )

-- a session that is read is that of a state
pub record Read (s : List ℕ) (x : Session) : Type 0 where
  pub state : State s
  pub same : x ≡ session_of s

pub held_read : (s : List ℕ) (x : Session) → stored s ≡ Some x → Read s x
unfolding stored
held_read s x e = go (is_state s) refl e
  where
    go : (b : Bool) → is_state s ≡ b → cond b (Some (session_of s)) None ≡ Some x → Read s x
    go true t f = record { state = is_state_lem s t; same = cc }
    go false t f = absurd (let z : ◌≡◌ {A = ℕ} 0 1 = cc in omega arith)
