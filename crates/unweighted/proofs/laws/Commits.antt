-- With all weights 1: the sets that COMMITs hold.
use Rattle.std.specs.Prelude.{ℕ, ◌&&◌, List, ◌≡◌}
use Rattle.std.proofs.Math.Path.{ap}
use Rattle.std.proofs.Common.{◌∙◌}
use Rattle.std.proofs.Math.Dec.{leb}
use Rattle.quorum.specs.laws.Lowest.{lowest_agree}
use Rattle.commits.specs.Commits.{commit_held, same_set, set_of}
use Rattle.commits.specs.Commits as weighted
use Rattle.settings.specs.declared.Settings as weighted_settings
use Rattle.unweighted.specs.Commits.{set_holders, set_leads, set_leader, leading_set}
use Rattle.unweighted.proofs.laws.Counts.{Ones, counts}

module _ (g : weighted_settings.Settings) (one : Ones g) (s : List ℕ) where
  holders_same : (p : ℕ) → weighted.set_holders g s p ≡ set_holders s g.n p
  unfolding weighted.set_holders set_holders
  holders_same p = counts g one (λ q. commit_held s q && same_set s p q)

  leads_same : (k p : ℕ) → weighted.set_leads g s k p ≡ set_leads s g.n k p
  unfolding weighted.set_leads set_leads
  leads_same k p = ap (λ (c : ℕ). commit_held s p && leb k c) (holders_same p)

  pub leader_same : (k m : ℕ) → k ≡ m → weighted.set_leader g s k ≡ set_leader s g.n m
  unfolding weighted.set_leader set_leader
  leader_same k m e = lowest_agree _ _ g.n (λ p lo hi. leads_same k p ∙ ap (λ (x : ℕ). set_leads s g.n x p) e)

  pub leading_set_same : (k m : ℕ) → k ≡ m → weighted.leading_set g s k ≡ leading_set s g.n m
  unfolding weighted.leading_set leading_set
  leading_set_same k m e = ap (set_of s) (leader_same k m e)
