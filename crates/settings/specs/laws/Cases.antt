-- The paths of `named_ta`, `check_named` and `check`.
use Rattle.std.specs.Prelude.{ℕ, ◌+◌, ◌*◌, ◌<◌, ◌≤◌, Bool, true, false, not, ◌≡◌, Some, None}
use Rattle.std.proofs.Math.Path.{sym}
use Rattle.std.proofs.Common.{◌∙◌, Fits}
use native.Mathlib.Omega.{arith}
use borrow.Author.Tests.{lt-leb, le-leb, le-ltb, ne_eqb, not-true, not-false}
use Rattle.std.specs.Int.{w8, w64}
use Rattle.quorum.specs.Whole.{whole_of, weights_right}
use Rattle.quorum.specs.laws.Whole.{whole_le}
use Rattle.settings.specs.Settings.{valid_settings, UNNAMED, largest_ta, named_ta}
use Rattle.settings.specs.Check.{check_settings}
use Rattle.settings.specs.laws.Rules.{rules_valid, refused_check}

module _ (n ta ts w : ℕ) where
  pub unnamed : (whole m : ℕ) → ta ≡ UNNAMED → whole ≡ whole_of w n → m ≡ largest_ta whole ts → m ≡ named_ta n ta ts w
  unfolding named_ta
  unnamed whole m e f g = rw (e, ← f, g)

  pub named : (ta ≡ UNNAMED → ⊥) → ta ≡ named_ta n ta ts w
  unfolding named_ta
  named e = rw (ne_eqb ta UNNAMED e)

module _ (n ta ts w : ℕ) where
  pub none : n < 1 → None ≡ check_settings n ta ts w
  unfolding valid_settings
  none h = sym (refused_check n ta ts w (simp (lt-leb 1 n h)))

  pub too_many : 16 < n → None ≡ check_settings n ta ts w
  unfolding valid_settings
  too_many h = sym (refused_check n ta ts w (simp (le-leb 1 n (omega arith), lt-leb n 16 h)))

  pub weights_wrong : (b : Bool) → 1 ≤ n → n ≤ 16 → b ≡ weights_right w n → not b ≡ true → None ≡ check_settings n ta ts w
  unfolding valid_settings
  weights_wrong b a c e t = sym (refused_check n ta ts w (simp (le-leb 1 n a, le-leb n 16 c, sym e ∙ not-true b t)))

  module _ (b : Bool) (a : 1 ≤ n) (c : n ≤ 16) (e : b ≡ weights_right w n) (t : not b ≡ false) where
    right : weights_right w n ≡ true
    right = sym e ∙ not-false b t

    pub ta_above : ts < ta → None ≡ check_settings n ta ts w
    unfolding valid_settings
    ta_above h = sym (refused_check n ta ts w (simp (le-leb 1 n a, le-leb n 16 c, right, lt-leb ta ts h)))

    module _ (d : ta ≤ ts) (m : ℕ) (f : m ≡ whole_of w n) where
      pub sum_above : m ≤ 2 * ts + ta → None ≡ check_settings n ta ts w
      unfolding valid_settings
      sum_above h = sym (refused_check n ta ts w (simp (le-leb 1 n a, le-leb n 16 c, right, le-leb ta ts d, le-ltb (2 * ts + ta) (whole_of w n) (omega arith))))

      pub ts_above : m ≤ ts → None ≡ check_settings n ta ts w
      ts_above h = sum_above (omega arith)

      pub taken : 2 * ts + ta < m → Some (record { n = n; ta = ta; ts = ts; whole = m; weights = w }) ≡ check_settings n ta ts w
      unfolding check_settings
      taken h = rw (rules_valid n ta ts w (record { some = a; few = c; right = right; sum = sym f ∙ f; ordered = d; margin = omega arith }), f)

-- nothing wraps: the sum of all weights is at most 64
module _ (n w m : ℕ) (b : Bool) (c : n ≤ 16) (e : b ≡ weights_right w n) (t : not b ≡ false) (f : m ≡ whole_of w n) where
  small : m ≤ 64
  small = omega (arith, whole_le w n (sym e ∙ not-false b t))

  pub whole_fits : Fits w8 m
  whole_fits = omega (arith, small)

  module _ (ts : ℕ) (l : ts < m) where
    pub ts_fits : Fits w8 ts
    ts_fits = omega (arith, small)

    pub double_fits : Fits w64 (2 * ts)
    double_fits = omega (arith, small)

    pub sum_fits : (ta : ℕ) → ta ≤ ts → Fits w64 (2 * ts + ta)
    sum_fits ta h = omega (arith, small)

    pub ta_fits : (ta : ℕ) → ta ≤ ts → Fits w8 ta
    ta_fits ta h = omega (arith, small)

pub ruleset check_fits = (whole_fits, ts_fits, double_fits, sum_fits, ta_fits)

pub ruleset check_cases = (none, too_many, weights_wrong, ta_above, sum_above, ts_above, taken)
