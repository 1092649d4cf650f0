-- Where all weights are 1, a weight is a count, the weight of all is n, and the thresholds are the unweighted ones.
use Rattle.std.specs.Prelude.{ℕ, ◌-◌, ◌≤◌, Bool, ◌&&◌, ◌≡◌}
use Rattle.std.proofs.Math.Bool.{true, false}
use Rattle.std.proofs.Math.Path.{refl, ap}
use Rattle.std.proofs.Common.{◌∙◌}
use Rattle.std.proofs.Math.Dec.{leb}
use Rattle.quorum.specs.Total.{count, everyone}
use Rattle.quorum.specs.laws.Total.{count_everyone}
use Rattle.quorum.specs.Weights.{weight_of, weigh}
use Rattle.quorum.specs.Whole.{whole_of, weight_right, weights_right}
use Rattle.quorum.specs.laws.Whole.{total_weights}
use Rattle.quorum.specs.laws.Every.{each_every}
use Rattle.settings.specs.Settings as weighted
use Rattle.settings.specs.declared.Settings as weighted_settings
use Rattle.unweighted.specs.Settings.{Settings, valid_settings, named_ta, quorum, repeat, vote_quorum, relay, accept}

module _ (w n : ℕ) (each : (p : ℕ) → 1 ≤ p → p ≤ n → weight_of w p ≡ 1) where
  pub weigh_count : (M : ℕ → Bool) → weigh w M n ≡ count M n
  weigh_count M = total_weights (weight_of w) (λ p. 1) M n each

  pub whole_count : whole_of w n ≡ n
  unfolding whole_of
  whole_count = weigh_count everyone ∙ count_everyone n

  weights_right_lem : weights_right w n ≡ true
  unfolding weights_right weight_right
  weights_right_lem = each_every (λ p. weight_right w p) n (λ p lo hi. rw (each p lo hi))

  pub valid_same : (ta ts : ℕ) → weighted.valid_settings n ta ts w ≡ valid_settings n ta ts
  unfolding weighted.valid_settings valid_settings
  valid_same ta ts = rw (weights_right_lem, whole_count, and_true (leb 1 n && leb n 16))
    where
      and_true : (b : Bool) → b && true ≡ b
      and_true true = refl
      and_true false = refl

  pub named_same : (ta ts : ℕ) → weighted.named_ta n ta ts w ≡ named_ta n ta ts
  unfolding weighted.named_ta named_ta
  named_same ta ts = rw whole_count

-- settings in which all weights are 1
pub record Ones (g : weighted_settings.Settings) : Type 0 where
  pub each : (p : ℕ) → 1 ≤ p → p ≤ g.n → weight_of g.weights p ≡ 1
  pub whole : g.whole ≡ g.n

-- the settings without the weights
abbrev pub plain : weighted_settings.Settings → Settings
plain g = record { n = g.n; ta = g.ta; ts = g.ts }

module _ (g : weighted_settings.Settings) (one : Ones g) where
  pub counts : (M : ℕ → Bool) → weighted.weighed g M ≡ count M g.n
  counts M = weigh_count g.weights g.n one.each M

  pub quorum_same : weighted.quorum g ≡ quorum (plain g)
  unfolding weighted.quorum quorum
  quorum_same = ap (λ (k : ℕ). k - g.ts) one.whole

  pub vote_quorum_same : weighted.vote_quorum g ≡ vote_quorum (plain g)
  unfolding weighted.vote_quorum vote_quorum
  vote_quorum_same = ap (λ (k : ℕ). k - g.ta) one.whole

module _ (g : weighted_settings.Settings) where
  pub repeat_same : weighted.repeat g ≡ repeat (plain g)
  unfolding weighted.repeat repeat
  repeat_same = refl

  pub relay_same : weighted.relay g ≡ relay (plain g)
  unfolding weighted.relay relay
  relay_same = refl

  pub accept_same : weighted.accept g ≡ accept (plain g)
  unfolding weighted.accept accept
  accept_same = refl
