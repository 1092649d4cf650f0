-- The cases of the code.
use Rattle.std.specs.Prelude.{ℕ, ◌≤◌, ◌<◌, Bool, true, false, ◌&&◌, not, List, ◌≡◌, length, Option, Some, None}
use Rattle.std.proofs.Common.{sym, ◌∙◌, arith, Fits}
use Rattle.std.specs.Int.{w8}
use Rattle.std.proofs.Math.Dec.{leb}
use borrow.Author.Tests.{eq-eqb, ne_eqb, lt-leb, le-leb, not-true, not-false, leb-true}
use Rattle.quorum.specs.laws.Bools.{and_left, and_right}
use Rattle.settings.specs.Check.{check_settings}
use Rattle.settings.specs.Versions.{version_known, turn_bound}
use Rattle.settings.specs.laws.Rules.{Taken, check_taken, check_refused}
use Rattle.settings.specs.declared.Settings.{Settings}
use Rattle.quorum.specs.Every.{every}
use Rattle.quorum.specs.laws.Every.{every_both}
use Rattle.quorum.specs.Whole.{whole_of}
use Rattle.quorum.specs.laws.Whole.{whole_le}
use Rattle.settings.specs.Rules.{Ruled}
use Rattle.records.specs.Layout.{n_at, ta_at, ts_at, own_at, weights_at, boxed_at, turns_at, round_at, commit_count_at}
use Rattle.records.specs.Records.{version}
use Rattle.records.specs.Words.{word}
use Rattle.session.specs.Session.{numbered, rounds_right, commits_right, numbers_right, settings_of, is_state, session_with, session_of, stored}
use Rattle.session.specs.laws.Session.{place_right, is_state_lem, stored_with}
use Rattle.session.specs.declared.Session.{Session}

module _ (g : Settings) (s : List ℕ) (own : ℕ) (eo : own ≡ word s own_at) (b : Bool) (eb : b ≡ numbered g.n own) where
  pub own_wrong : not b ≡ true → false ≡ numbers_right g s
  unfolding numbers_right
  own_wrong t = rw (← eo, ← eb, not-true b t)

  module _ (tb : not b ≡ false) (x : Bool) (ex : x ≡ (leb (word s boxed_at) 1 && version_known (version s))) where
    pub kinds_wrong : not x ≡ true → false ≡ numbers_right g s
    unfolding numbers_right
    kinds_wrong t = rw (← eo, ← eb, not-false b tb, ← ex, not-true x t)

    module _ (tx : not x ≡ false) (v k turns : ℕ) (ev : v ≡ version s) (ek : k ≡ turn_bound v g) (et : turns ≡ word s turns_at) where
      pub turns_wrong : k < turns → false ≡ numbers_right g s
      unfolding numbers_right
      turns_wrong l = rw (← eo, ← eb, not-false b tb, ← ex, not-false x tx, ← ev, ← ek, ← et, lt-leb turns k l)

      pub places_asked : (c : Bool) → turns ≤ k → c ≡ every (place_right s g.n) g.n → c ≡ numbers_right g s
      unfolding numbers_right rounds_right commits_right place_right
      places_asked c l ec =
          rw (← eo, ← eb, not-false b tb, ← ex, not-false x tx, ← ev, ← ek, ← et, le-leb turns k l)
          (ec ∙ every_both (λ i. leb (word s (round_at i)) 33) (λ p. leb (word s (commit_count_at p)) g.n) g.n)

pub ruleset number_cases = (own_wrong, kinds_wrong, turns_wrong, places_asked)

pub own_small : (g : Settings) (s : List ℕ) (b : Bool) → b ≡ numbers_right g s → b ≡ true → g.n < 256 → word s own_at < 256
unfolding numbers_right numbered
own_small g s b e t h =
    let all : numbers_right g s ≡ true = sym e ∙ t in
    let o : leb 1 (word s own_at) && leb (word s own_at) g.n ≡ true = and_left _ _ (and_left _ _ (and_left _ _ (and_left _ _ (and_left _ _ all)))) in
    let l : word s own_at ≤ g.n = leb-true (word s own_at) g.n (and_right (leb 1 (word s own_at)) _ o) in
    omega arith

pub with_held : (g : Settings) (s : List ℕ) (b : Bool) (x : Session) → b ≡ numbers_right g s → b ≡ true → x ≡ session_with g s → Some x ≡ stored_with g s
unfolding stored_with
with_held g s b x e t f = rw (← e, t, f)

pub with_none : (g : Settings) (s : List ℕ) (b : Bool) → b ≡ numbers_right g s → b ≡ false → None ≡ stored_with g s
unfolding stored_with
with_none g s b e t = rw (← e, t)

pub size_wrong : (s : List ℕ) → (length s ≡ 2048 → ⊥) → None ≡ stored s
unfolding stored is_state
size_wrong s h = rw (ne_eqb (length s) 2048 h)

module _ (s : List ℕ) (size : length s ≡ 2048) (n ta ts w : ℕ) (en : n ≡ word s n_at) (ea : ta ≡ word s ta_at) (es : ts ≡ word s ts_at) (ew : w ≡ word s weights_at) (c : Option Settings) (ec : c ≡ check_settings n ta ts w) where
  pub settings_wrong : c ≡ None → None ≡ stored s
  unfolding stored is_state
  settings_wrong t = rw (eq-eqb (length s) 2048 size, ← en, ← ea, ← es, ← ew, check_refused n ta ts w (sym ec ∙ t))

  pub settings_right : (g : Settings) (r : Option Session) → c ≡ Some g → r ≡ stored_with g s → r ≡ stored s
  unfolding stored is_state session_of stored_with settings_of
  settings_right g r t f =
      let k : Taken n ta ts w g = check_taken n ta ts w g (sym ec ∙ t) in
      f ∙ rw (k.same, eq-eqb (length s) 2048 size, ← en, ← ea, ← es, ← ew, k.valid)

pub ruleset state_cases = (own_small, with_held, with_none, size_wrong, settings_wrong, settings_right)

-- the settings of a state fit into bytes
module _ (s : List ℕ) (h : is_state s ≡ true) where
  ruled : Ruled (settings_of s)
  ruled = (is_state_lem s h).ruled

  sum_small : whole_of (word s weights_at) (word s n_at) ≤ 64
  unfolding settings_of
  sum_small = omega (arith, ruled.few, whole_le (word s weights_at) (word s n_at) ruled.right)

  pub n_fits : (n : ℕ) → n ≡ word s 0 → Fits w8 n
  unfolding settings_of
  n_fits n e = omega (arith, e, ruled.few)

  pub ta_fits : (k : ℕ) → k ≡ word s 1 → Fits w8 k
  unfolding settings_of
  ta_fits k e = omega (arith, e, sum_small, ruled.sum, ruled.margin)

  pub ts_fits : (k : ℕ) → k ≡ word s 2 → Fits w8 k
  unfolding settings_of
  ts_fits k e = omega (arith, e, sum_small, ruled.sum, ruled.margin)

  pub whole_fits : (n w k : ℕ) → n ≡ word s 0 → w ≡ word s 141 → k ≡ whole_of w n → Fits w8 k
  whole_fits n w k en ew ek =
      let e : k ≡ whole_of (word s weights_at) (word s n_at) = ek ∙ rw (en, ew) in
      omega (arith, e, sum_small)

pub settings_read : (s : List ℕ) (n ta ts w k : ℕ) → n ≡ word s 0 → w ≡ word s 141 → ta ≡ word s 1 → ts ≡ word s 2 → k ≡ whole_of w n → record { n = n; ta = ta; ts = ts; whole = k; weights = w } ≡ settings_of s
unfolding settings_of
settings_read s n ta ts w k en ew ea es ek = rw (ek, en, ew, ea, es)

pub ruleset settings_cases = (n_fits, ta_fits, ts_fits, whole_fits, settings_read)
