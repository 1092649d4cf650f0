-- The thresholds as sums, and their bounds within the rules.
use Rattle.std.specs.Prelude.{ℕ, ◌+◌, ◌*◌, ◌≤◌, ◌≡◌}
use Rattle.std.proofs.Math.Path.{refl}
use native.Mathlib.Omega.{arith}
use Rattle.settings.specs.Settings.{quorum, repeat, vote_quorum, relay, accept}
use Rattle.settings.specs.Rules.{Ruled}
use Rattle.settings.specs.declared.Settings.{Settings}

module _ (g : Settings) where
  pub repeat_sum : repeat g ≡ g.ts + 1
  unfolding repeat
  repeat_sum = refl

  pub relay_sum : relay g ≡ g.ta + 1
  unfolding relay
  relay_sum = refl

  pub accept_sum : accept g ≡ 2 * g.ta + 1
  unfolding accept
  accept_sum = refl

  module _ (c : ℕ) where
    pub quorum_reached : quorum g ≤ c → g.whole ≤ c + g.ts
    unfolding quorum
    quorum_reached h = omega arith

    pub vote_quorum_reached : vote_quorum g ≤ c → g.whole ≤ c + g.ta
    unfolding vote_quorum
    vote_quorum_reached h = omega arith

  pub quorum_sum : Ruled g → quorum g + g.ts ≡ g.whole
  unfolding quorum
  quorum_sum r = omega arith

-- bounds of the thresholds within the rules
pub record Bounds (g : Settings) : Type 0 where
  pub quorum_some : 1 ≤ quorum g
  pub vote_quorum_some : 1 ≤ vote_quorum g

pub ruled_bounds : (g : Settings) → Ruled g → Bounds g
unfolding quorum vote_quorum
ruled_bounds g r =
    record {
      quorum_some = omega arith;
      vote_quorum_some = omega arith;
    }
