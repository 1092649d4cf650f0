-- The sets that COMMITs hold, for rules 1 and 2 of the turn order: PROTOCOL, section 7. The senders are 1 to n of the settings g and count by
-- their weights.
use Rattle.std.specs.Prelude.{ℕ, Bool, ◌&&◌, cond, List, [], eqb, leb, ltb}
use Rattle.settings.specs.Settings.{weighed}
use Rattle.settings.specs.declared.Settings.{Settings}
use Rattle.quorum.specs.Lowest.{lowest}
use Rattle.quorum.specs.Every.{every}
use Rattle.records.specs.Records.{commit_count, commit_value, commit_set}

-- a COMMIT of sender p is held: its set has a value
unfoldable pub commit_held : List ℕ → ℕ → Bool
commit_held s p = ltb 0 (commit_count s p)

-- the COMMITs of senders p and q hold the same set: sets are compared as their words
unfoldable pub same_set : List ℕ → ℕ → ℕ → Bool
same_set s p q =
    eqb (commit_count s p) (commit_count s q)
    && every (λ k. eqb (commit_value s p k) (commit_value s q k)) (commit_count s p)

-- the weight of the senders that hold the set of sender p
unfoldable pub set_holders : Settings → List ℕ → ℕ → ℕ
set_holders g s p = weighed g (λ q. commit_held s q && same_set s p q)

-- sender p holds a set that senders of weight k hold
unfoldable pub set_leads : Settings → List ℕ → ℕ → ℕ → Bool
set_leads g s k p = commit_held s p && leb k (set_holders g s p)

-- the lowest sender with a set that senders of weight k hold, and 0 if there is none
unfoldable pub set_leader : Settings → List ℕ → ℕ → ℕ
set_leader g s k = lowest (set_leads g s k) g.n

-- the set of a sender, and none of nobody
unfoldable pub set_of : List ℕ → ℕ → List ℕ
set_of s p = cond (eqb p 0) [] (commit_set s p)

-- a set that senders of weight k hold; among several that of the lowest-numbered sender (PROTOCOL 7.2)
unfoldable pub leading_set : Settings → List ℕ → ℕ → List ℕ
leading_set g s k = set_of s (set_leader g s k)
