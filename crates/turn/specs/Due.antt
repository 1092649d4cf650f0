-- A turn does the first thing due by rules 1 to 6, the lowest instance first (PROTOCOL 8.1). The state s has the settings g.
use Rattle.std.specs.Prelude.{ℕ, cond, List, [], ◌∷◌, length, eqb}
use Rattle.settings.specs.Settings.{quorum, repeat}
use Rattle.settings.specs.declared.Settings.{Settings}
use Rattle.records.specs.Records.{own_input, send_sent, commit_sent}
use Rattle.acts.specs.Acts.{or_act}
use Rattle.acts.specs.declared.Act.{Act}
use Rattle.acts.specs.declared.Act.TheVariants.{Idle, InForce, Commit, Send}
use Rattle.broadcasts.specs.Leading.{present}
use Rattle.broadcasts.specs.Broadcasts.{output, echo_rule, ready_rule}
use Rattle.votes.specs.Votes.{vote_rule}
use Rattle.exits.specs.Exits.{exit_now}
use Rattle.commits.specs.Commits.{set_leader, leading_set}

-- 1. a set is in force where its COMMITs weigh the quorum (PROTOCOL 7.4)
unfoldable pub in_force_rule : Settings → List ℕ → Act
in_force_rule g s = cond (eqb (set_leader g s (quorum g)) 0) Idle InForce

-- one set, or another where it is none
unfoldable pub or_set : List ℕ → List ℕ → List ℕ
or_set [] ys = ys
or_set (x ∷ xs) ys = x ∷ xs

-- 2. the named set, or else the lowest-numbered sender's among sets whose COMMITs reach the repeat threshold (PROTOCOL 7.2); none is []
unfoldable pub commit_due : Settings → List ℕ → List ℕ
commit_due g s = or_set (exit_now g s).names (leading_set g s (repeat g))

unfoldable pub commit_of : List ℕ → Act
commit_of [] = Idle
commit_of (x ∷ xs) = Commit (length (x ∷ xs))

-- 2. a COMMIT is due only if none was sent (PROTOCOL 7.1, 7.2)
unfoldable pub commit_rule : Settings → List ℕ → Act
commit_rule g s = cond (commit_sent s) Idle (commit_of (commit_due g s))

-- 3. one SEND, with the own input (PROTOCOL 4.2)
unfoldable pub send_rule : List ℕ → Act
send_rule s = cond (send_sent s) Idle (Send (own_input s))

-- 6. no vote acts under Exit 1 (PROTOCOL 8.7)
unfoldable pub votes_rule : Settings → List ℕ → Act
votes_rule g s = cond (eqb (exit_now g s).number 1) Idle (vote_rule g s (λ i. present (output g s i)))

-- the rules in their order
unfoldable pub due : Settings → List ℕ → Act
due g s =
    or_act (in_force_rule g s)
    (or_act (commit_rule g s)
    (or_act (send_rule s)
    (or_act (echo_rule g s)
    (or_act (ready_rule g s)
    (votes_rule g s)))))
