-- From the thresholds of the settings, as the engine counts them, to evidence.
use Rattle.std.specs.Prelude.{ℕ, ◌+◌, ◌*◌, ◌≤◌, Bool, true, ◌≡◌}
use Rattle.std.proofs.Common.{arith}
use Rattle.settings.specs.Settings.{quorum, repeat, vote_quorum, relay, accept}
use Rattle.settings.specs.laws.Thresholds.{quorum_reached, vote_quorum_reached, repeat_sum, relay_sum, accept_sum}
use Rattle.settings.specs.declared.Settings.{Settings}
use Rattle.settings.specs.Rules.{Ruled}
use Rattle.quorum.specs.Whole.{whole_of}
use Rattle.agreement.specs.Evidence.{World, weigh, whole, Backed}

-- the senders that pass a test have P
module _ (W : World) (ruled : Ruled W.settings) (test : ℕ → Bool) {P : ℕ → Type 0} (each : (m : ℕ) → 1 ≤ m → m ≤ W.settings.n → test m ≡ true → P m) where
  abbrev g : Settings
  g = W.settings

  backed : {k slack : ℕ} → k ≤ weigh W test + slack → Backed W k slack P
  backed h = record { set = test; enough = h; each = λ m hm t. each m hm.low hm.high t }

  pub by_quorum : quorum g ≤ weigh W test → Backed W (whole W) g.ts P
  unfolding whole_of
  by_quorum h = backed (omega (arith, quorum_reached g (weigh W test) h, ruled.sum))

  pub by_vote_quorum : vote_quorum g ≤ weigh W test → Backed W (whole W) g.ta P
  unfolding whole_of
  by_vote_quorum h = backed (omega (arith, vote_quorum_reached g (weigh W test) h, ruled.sum))

  pub by_repeat : repeat g ≤ weigh W test → Backed W (g.ts + 1) 0 P
  by_repeat h = backed (omega (arith, repeat_sum g))

  pub by_relay : relay g ≤ weigh W test → Backed W (g.ta + 1) 0 P
  by_relay h = backed (omega (arith, relay_sum g))

  pub by_accept : accept g ≤ weigh W test → Backed W (2 * g.ta + 1) 0 P
  by_accept h = backed (omega (arith, accept_sum g))
