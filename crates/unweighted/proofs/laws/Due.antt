-- With all weights 1: what a turn does.
use Prim.Native.Nat.{ℕ}
use Rattle.std.proofs.Math.Bool.{cond}
use mathlib.Core.List.{List}
use Rattle.std.specs.Prelude.{◌≡◌, eqb, Option}
use Rattle.std.proofs.Math.Path.{ap, ap₂, fun_ext}
use Rattle.std.proofs.Common.{◌∙◌}
use Rattle.settings.specs.Versions.{finishing}
use Rattle.records.specs.Records.{commit_sent, version}
use Rattle.acts.specs.Acts.{first_act}
use Rattle.acts.specs.declared.Act.{Act}
use Rattle.acts.specs.declared.Act.TheVariants.{Idle, InForce}
use Rattle.broadcasts.specs.Broadcasts as weighted_broadcasts
use Rattle.broadcasts.specs.Leading.{present}
use Rattle.exits.specs.Exits.{Exit}
use Rattle.turn.specs.Due.{or_set, commit_of}
use Rattle.turn.specs.Due as weighted
use Rattle.votes.specs.Votes as weighted_votes
use Rattle.settings.specs.declared.Settings as weighted_settings
use Rattle.unweighted.specs.Votes.{votes_decided_one, vote_due}
use Rattle.unweighted.specs.Broadcasts.{output}
use Rattle.unweighted.specs.Due.{in_force_rule, commit_due, commit_rule, votes_rule, due}
use Rattle.unweighted.proofs.laws.Counts.{Ones, plain, quorum_same, repeat_same}
use Rattle.unweighted.proofs.laws.Broadcasts.{output_same, echo_rule_same, ready_rule_same}
use Rattle.unweighted.proofs.laws.Votes.{decided_same, vote_due_same}
use Rattle.unweighted.proofs.laws.Exits.{exit_now_same}
use Rattle.unweighted.proofs.laws.Commits.{leader_same, leading_set_same}

module _ (g : weighted_settings.Settings) (one : Ones g) (s : List ℕ) where
  in_force_same : weighted.in_force_rule g s ≡ in_force_rule (plain g) s
  unfolding weighted.in_force_rule in_force_rule
  in_force_same = ap (λ (p : ℕ). cond (eqb p 0) Idle InForce) (leader_same g one s _ _ (quorum_same g one))

  pub commit_due_same : weighted.commit_due g s ≡ commit_due (plain g) s
  unfolding weighted.commit_due commit_due
  commit_due_same = ap₂ or_set (ap (λ (x : Exit). x.names) (exit_now_same g one s)) (leading_set_same g one s _ _ (repeat_same g))

  commit_same : weighted.commit_rule g s ≡ commit_rule (plain g) s
  unfolding weighted.commit_rule commit_rule
  commit_same = ap (λ (xs : List ℕ). cond (commit_sent s) Idle (commit_of xs)) commit_due_same

  vote_same : (i : ℕ) → weighted_votes.vote_due g s (finishing (version s)) (present (weighted_broadcasts.output g s i)) (weighted_votes.votes_decided_one g s) i ≡ vote_due (plain g) s (finishing (version s)) (present (output (plain g) s i)) (votes_decided_one (plain g) s) i
  vote_same i =
      ap₂ (λ (o : Option ℕ) (k : ℕ). weighted_votes.vote_due g s (finishing (version s)) (present o) k i) (output_same g one s i) (decided_same g one s)
      ∙ vote_due_same g one s i (finishing (version s)) (present (output (plain g) s i)) (votes_decided_one (plain g) s)

  votes_same : weighted.votes_rule g s ≡ votes_rule (plain g) s
  unfolding weighted.votes_rule weighted_votes.vote_rule votes_rule
  votes_same =
      ap₂ (λ (x : Exit) (f : ℕ → Act). cond (eqb x.number 1) Idle (first_act f g.n)) (exit_now_same g one s) (fun_ext vote_same)

  pub due_same : weighted.due g s ≡ due (plain g) s
  unfolding weighted.due due
  due_same = rw (in_force_same, commit_same, echo_rule_same g one s, ready_rule_same g one s, votes_same)
