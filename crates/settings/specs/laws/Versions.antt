-- The versions one by one, and the turn bound of each.
use Rattle.std.specs.Prelude.{ℕ, ◌+◌, ◌*◌, ◌≤◌, Bool, true, false, cond, ◌≡◌, refl, leb}
use Rattle.std.proofs.Common.{arith, le-leb, leb-true}
use Rattle.quorum.specs.laws.Bools.{and_left, and_right}
use Rattle.settings.specs.Rules.{Ruled}
use Rattle.settings.specs.Versions.{FIRST_VERSION, version_known, finishing, turn_bound}
use Rattle.settings.specs.declared.Settings.{Settings}

pub record Known (version : ℕ) : Type 0 where
  pub low : 1 ≤ version
  pub high : version ≤ 2

pub version_known_lem : (version : ℕ) → version_known version ≡ true → Known version
unfolding version_known
version_known_lem version e =
    record {
      low = leb-true 1 version (and_left (leb 1 version) (leb version 2) e);
      high = leb-true version 2 (and_right (leb 1 version) (leb version 2) e);
    }

pub known_version : (version : ℕ) → Known version → version_known version ≡ true
unfolding version_known
known_version version k = simp (le-leb 1 version k.low, le-leb version 2 k.high)

-- a session of version 1 has no FINISHes, and its bound is 99·n + 3
pub first_plain : finishing FIRST_VERSION ≡ false
unfolding finishing
first_plain = refl

pub first_bound : (g : Settings) → turn_bound FIRST_VERSION g ≡ 99 * g.n + 3
unfolding turn_bound finishing
first_bound g = refl

-- both bounds as one: n more turns where there are FINISHes
pub turn_bound_sum : (version : ℕ) (g : Settings) → turn_bound version g ≡ 99 * g.n + cond (finishing version) g.n 0 + 3
unfolding turn_bound
turn_bound_sum version g = by (finishing version)
  where
    by : (b : Bool) → cond b (100 * g.n + 3) (99 * g.n + 3) ≡ 99 * g.n + cond b g.n 0 + 3
    by true = omega arith
    by false = omega arith

pub bound_few : (version : ℕ) (g : Settings) → Ruled g → turn_bound version g ≤ 1603
unfolding turn_bound
bound_few version g r = by (finishing version)
  where
    by : (b : Bool) → cond b (100 * g.n + 3) (99 * g.n + 3) ≤ 1603
    by true = omega (arith, r.few)
    by false = omega (arith, r.few)

-- the paths of `turn_bound`
module _ (version : ℕ) (g : Settings) (b : Bool) (e : b ≡ finishing version) where
  pub with_finishes : b ≡ true → 100 * g.n + 3 ≡ turn_bound version g
  unfolding turn_bound
  with_finishes t = rw (← e, t)

  pub without_finishes : b ≡ false → 99 * g.n + 3 ≡ turn_bound version g
  unfolding turn_bound
  without_finishes t = rw (← e, t)
