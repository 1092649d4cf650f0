-- The world of a session, and evidence: sets of senders that are heavy enough to have honest members.
-- Thresholds stand as sums: a quorum of senders is whole ≤ weight + ts (PROTOCOL 1.14).
use Rattle.std.specs.Prelude.{ℕ, ◌+◌, ◌*◌, ◌≤◌, ◌<◌, Bool, true, ◌≡◌}
use Rattle.settings.specs.Settings.{weighed}
use Rattle.settings.specs.Rules.{Ruled}
use Rattle.settings.specs.declared.Settings.{Settings}
use Rattle.quorum.specs.Total.{everyone}
use Rattle.agreement.specs.Honest as honest

-- the session's settings, who is honest, and the coin of a vote and a round
pub record World : Type 0 where
  pub settings : Settings
  pub honest : ℕ → Bool
  pub coin : ℕ → ℕ → Bool

-- what the members of a set count: the weights of the senders. Every count of senders goes through here.
abbrev pub weigh : World → (ℕ → Bool) → ℕ
weigh W M = weighed W.settings M

abbrev pub whole : World → ℕ
whole W = weigh W everyone

-- what the liars count
abbrev pub liars : World → ℕ
liars W = honest.liars W.settings W.honest

-- settings within the rules, and liars of at most L, which is at most ts
pub record Sound (W : World) (L : ℕ) : Type 0 where
  pub ruled : Ruled W.settings
  pub margin : 2 * W.settings.ts + W.settings.ta < whole W
  pub bound : L ≤ W.settings.ts
  pub few : liars W ≤ L

module _ (W : World) where
  abbrev pub Honest : ℕ → Type 0
  Honest m = honest.Honest W.settings W.honest m

  -- a set of senders of weight k or more, up to the slack, whose honest members have P
  pub record Backed (k slack : ℕ) (P : ℕ → Type 0) : Type 0 where
    pub set : ℕ → Bool
    pub enough : k ≤ weigh W set + slack
    pub each : (m : ℕ) → Honest m → set m ≡ true → P m
