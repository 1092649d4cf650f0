-- What `valid_settings` and `check_settings` take is what the rules ask.
use Rattle.std.specs.Prelude.{ℕ, ◌+◌, ◌*◌, ◌≤◌, ◌≡◌, refl, Bool, true, false, ◌&&◌, cond, ltb, leb, Some, None}
use Rattle.std.proofs.Common.{arith, le-leb, lt-ltb, leb-true, ltb-true}
use Rattle.quorum.specs.laws.Bools.{and_left, and_right}
use Rattle.quorum.specs.Whole.{whole_of, weights_right}
use Rattle.quorum.specs.laws.Whole.{whole_le}
use Rattle.settings.specs.Settings.{valid_settings, settings_from}
use Rattle.settings.specs.Check.{check_settings}
use Rattle.settings.specs.declared.Settings.{Settings}
use Rattle.settings.specs.Rules.{Rules, Ruled}

pub whole_few : (g : Settings) → Ruled g → g.whole ≤ 64
whole_few g r = omega (arith, r.sum, whole_le g.weights g.n r.right, r.few)

pub valid_rules : (n ta ts w : ℕ) → valid_settings n ta ts w ≡ true → Rules n ta ts (whole_of w n) w
unfolding valid_settings
valid_rules n ta ts w e =
    let a : leb 1 n && leb n 16 && weights_right w n && leb ta ts ≡ true = and_left _ (ltb (2 * ts + ta) (whole_of w n)) e in
    let b : leb 1 n && leb n 16 && weights_right w n ≡ true = and_left _ (leb ta ts) a in
    let c : leb 1 n && leb n 16 ≡ true = and_left _ (weights_right w n) b in
    record {
      some = leb-true 1 n (and_left (leb 1 n) (leb n 16) c);
      few = leb-true n 16 (and_right (leb 1 n) (leb n 16) c);
      right = and_right (leb 1 n && leb n 16) (weights_right w n) b;
      sum = refl;
      ordered = leb-true ta ts (and_right (leb 1 n && leb n 16 && weights_right w n) (leb ta ts) a);
      margin = ltb-true (2 * ts + ta) (whole_of w n) (and_right (leb 1 n && leb n 16 && weights_right w n && leb ta ts) _ e);
    }

pub rules_valid : (n ta ts w : ℕ) → Rules n ta ts (whole_of w n) w → valid_settings n ta ts w ≡ true
unfolding valid_settings
rules_valid n ta ts w r = simp (le-leb 1 n r.some, le-leb n 16 r.few, r.right, le-leb ta ts r.ordered, lt-ltb (2 * ts + ta) (whole_of w n) r.margin)

pub refused_check : (n ta ts w : ℕ) → valid_settings n ta ts w ≡ false → check_settings n ta ts w ≡ None
unfolding check_settings
refused_check n ta ts w e = rw e

-- what `check_settings` takes, and the settings that it makes
pub record Taken (n ta ts w : ℕ) (g : Settings) : Type 0 where
  pub valid : valid_settings n ta ts w ≡ true
  pub same : g ≡ settings_from n ta ts w

pub check_taken : (n ta ts w : ℕ) (g : Settings) → check_settings n ta ts w ≡ Some g → Taken n ta ts w g
unfolding check_settings
check_taken n ta ts w g e = go (valid_settings n ta ts w) refl e
  where
    go : (b : Bool) → valid_settings n ta ts w ≡ b → cond b (Some (settings_from n ta ts w)) None ≡ Some g → Taken n ta ts w g
    go true v q = record { valid = v; same = cc }
    go false v q = absurd (let z : ◌≡◌ {A = ℕ} 0 1 = cc in omega arith)

pub check_refused : (n ta ts w : ℕ) → check_settings n ta ts w ≡ None → valid_settings n ta ts w ≡ false
unfolding check_settings
check_refused n ta ts w e = go (valid_settings n ta ts w) e
  where
    go : (b : Bool) → cond b (Some (settings_from n ta ts w)) None ≡ None → b ≡ false
    go true q = absurd (let z : ◌≡◌ {A = ℕ} 0 1 = cc in omega arith)
    go false q = refl
