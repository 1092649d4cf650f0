-- A turn does the first thing due by rules 1 to 6, the lowest instance first (PROTOCOL 8.1). The state s has the settings g.
use Rattle.std.specs.Prelude.{ℕ, cond, List, eqb}
use Rattle.settings.specs.Versions.{finishing}
use Rattle.records.specs.Records.{commit_sent, version}
use Rattle.acts.specs.Acts.{or_act, first_act}
use Rattle.acts.specs.declared.Act.{Act}
use Rattle.acts.specs.declared.Act.TheVariants.{Idle, InForce}
use Rattle.broadcasts.specs.Leading.{present}
use Rattle.turn.specs.Due.{or_set, commit_of, send_rule}
use Rattle.unweighted.specs.Settings.{Settings, quorum, repeat}
use Rattle.unweighted.specs.Broadcasts.{output, echo_rule, ready_rule}
use Rattle.unweighted.specs.Votes.{votes_decided_one, vote_due}
use Rattle.unweighted.specs.Exits.{exit_now}
use Rattle.unweighted.specs.Commits.{set_leader, leading_set}

-- 1. a set is in force where its COMMITs are a quorum (PROTOCOL 7.4)
unfoldable pub in_force_rule : Settings → List ℕ → Act
in_force_rule g s = cond (eqb (set_leader s g.n (quorum g)) 0) Idle InForce

-- 2. the named set, or else the lowest-numbered sender's among sets whose COMMITs reach the repeat threshold (PROTOCOL 7.2); none is []
unfoldable pub commit_due : Settings → List ℕ → List ℕ
commit_due g s = or_set (exit_now g s).names (leading_set s g.n (repeat g))

-- 2. a COMMIT is due only if none was sent (PROTOCOL 7.1, 7.2)
unfoldable pub commit_rule : Settings → List ℕ → Act
commit_rule g s = cond (commit_sent s) Idle (commit_of (commit_due g s))

-- 6. no vote acts under Exit 1 (PROTOCOL 8.7)
unfoldable pub votes_rule : Settings → List ℕ → Act
votes_rule g s =
    cond (eqb (exit_now g s).number 1) Idle
    (first_act (λ i. vote_due g s (finishing (version s)) (present (output g s i)) (votes_decided_one g s) i) g.n)

-- the rules in their order
unfoldable pub due : Settings → List ℕ → Act
due g s =
    or_act (in_force_rule g s)
    (or_act (commit_rule g s)
    (or_act (send_rule s)
    (or_act (echo_rule g s)
    (or_act (ready_rule g s)
    (votes_rule g s)))))
