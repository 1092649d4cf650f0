-- Evidence that is heavy enough has an honest member, and two pieces of it meet in one.
use Rattle.std.specs.Prelude.{ℕ, ◌+◌, ◌≤◌, ◌<◌}
use Rattle.std.proofs.Common.{arith}
use Rattle.settings.specs.Rules.{Ruled}
use Rattle.quorum.specs.Total.{everyone}
use Rattle.quorum.specs.Weights.{weight_of}
use Rattle.quorum.specs.Whole.{whole_of}
use Rattle.quorum.specs.laws.Total.{HonestCommon, honest_common}
use Rattle.agreement.specs.Evidence.{World, whole, liars, Sound, Honest, Backed}

pub sound : (W : World) (L : ℕ) → Ruled W.settings → L ≤ W.settings.ts → liars W ≤ L → Sound W L
unfolding whole_of
sound W L r b f =
    record {
      ruled = r;
      margin = omega (arith, r.margin, r.sum);
      bound = b;
      few = omega arith;
    }

-- somebody has P
pub record Somebody (P : ℕ → Type 0) : Type 0 where
  pub who : ℕ
  pub has : P who

module _ (W : World) where
  pub backed_map : {k slack : ℕ} {P Q : ℕ → Type 0} → ((m : ℕ) → Honest W m → P m → Q m) → Backed W k slack P → Backed W k slack Q
  backed_map f x = record { set = x.set; enough = x.enough; each = λ m hm t. f m hm (x.each m hm t) }

  -- two sets that together outweigh the whole and the liars have an honest member in common
  pub two_of : {L k l s t : ℕ} {P Q : ℕ → Type 0} → Sound W L → whole W + L + s + t < k + l → Backed W k s P → Backed W l t Q → Somebody (λ m. P m × Q m)
  two_of {P = P} {Q = Q} so lt x y = pick (honest_common (weight_of W.settings.weights) W.settings.n W.honest x.set y.set (omega arith))
    where
      pick : HonestCommon W.settings.n x.set y.set W.honest → Somebody (λ m. P m × Q m)
      pick c =
          let hm : Honest W c.at = record { low = c.low; high = c.high; fair = c.honest } in
          record { who = c.at; has = (x.each c.at hm c.left, y.each c.at hm c.right) }

  -- a set that outweighs the liars has an honest member
  pub one_of : {L k s : ℕ} {P : ℕ → Type 0} → Sound W L → L + s < k → Backed W k s P → Somebody P
  one_of {P = P} so lt x =
      first (two_of {l = whole W} {t = 0} {Q = λ m. Unit {0}} so (omega arith) x (record { set = everyone; enough = omega arith; each = λ m hm t. tt }))
    where
      first : Somebody (λ m. P m × Unit {0}) → Somebody P
      first o = record { who = o.who; has = o.has.0 }
