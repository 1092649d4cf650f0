-- A ta that is left unnamed is the largest that the rules allow with the other settings (PROTOCOL 1.7).
use Rattle.std.specs.Prelude.{ℕ, ◌*◌, ◌<◌, ◌≤◌, Bool, true, false, ◌≡◌}
use Rattle.std.proofs.Math.Path.{refl}
use Rattle.std.proofs.Common.{arith}
use Rattle.quorum.specs.Whole.{whole_of, weights_right}
use Rattle.settings.specs.Settings.{valid_settings, UNNAMED, largest_ta, named_ta, settings_from}
use Rattle.settings.specs.Rules.{Rules}
use Rattle.settings.specs.laws.Rules.{valid_rules, rules_valid, whole_few}

-- the ta that 255 means
abbrev pub unnamed_ta : ℕ → ℕ → ℕ → ℕ
unnamed_ta n ts w = named_ta n UNNAMED ts w

-- m is the largest ta that the rules allow beside n, ts and the weights
pub record Largest (n ts w m : ℕ) : Type 0 where
  pub allowed : valid_settings n m ts w ≡ true
  pub largest : (ta : ℕ) → valid_settings n ta ts w ≡ true → ta ≤ m

module _ (n ts w : ℕ) where
  meant : unnamed_ta n ts w ≡ largest_ta (whole_of w n) ts
  unfolding named_ta
  meant = refl

  -- whatever ta the rules allow is at most that, and so that is allowed
  above : (ta : ℕ) → valid_settings n ta ts w ≡ true → ta ≤ unnamed_ta n ts w
  unfolding largest_ta
  above ta e = let r = valid_rules n ta ts w e in omega (arith, meant, r.ordered, r.margin)

  -- n from 1 to 16, good weights and 2·ts below their sum are all that it takes
  pub unnamed_allowed : 1 ≤ n → n ≤ 16 → weights_right w n ≡ true → 2 * ts < whole_of w n → Largest n ts w (unnamed_ta n ts w)
  unfolding largest_ta
  unnamed_allowed some few right h =
      record {
        allowed =
            rules_valid n (unnamed_ta n ts w) ts w
            (record { some = some; few = few; right = right; sum = refl; ordered = omega (arith, meant); margin = omega (arith, meant) });
        largest = above;
      }

  -- where the rules allow any ta, 255 is the largest of them
  pub unnamed_largest : (ta : ℕ) → valid_settings n ta ts w ≡ true → Largest n ts w (unnamed_ta n ts w)
  unnamed_largest ta e = let r = valid_rules n ta ts w e in unnamed_allowed r.some r.few r.right (omega (arith, r.margin))

  refused : (ta : ℕ) → (Rules n ta ts (whole_of w n) w → ⊥) → valid_settings n ta ts w ≡ false
  refused ta h = by (valid_settings n ta ts w) refl
    where
      by : (b : Bool) → valid_settings n ta ts w ≡ b → valid_settings n ta ts w ≡ false
      by true e = absurd (h (valid_rules n ta ts w e))
      by false e = e

  -- where 2·ts ≥ W every ta is refused, and so is an unnamed one (PROTOCOL 1.7)
  pub none_allowed : whole_of w n ≤ 2 * ts → (ta : ℕ) → valid_settings n ta ts w ≡ false
  none_allowed h ta = refused ta (λ r. omega (arith, r.margin))

  -- 255 itself is no ta: no session is lost by reading it otherwise, and a state that stores it is refused (PROTOCOL 9.6)
  pub unnamed_no_number : valid_settings n UNNAMED ts w ≡ false
  unnamed_no_number = refused UNNAMED (λ r. omega (arith, r.ordered, r.margin, whole_few (settings_from n UNNAMED ts w) r))
