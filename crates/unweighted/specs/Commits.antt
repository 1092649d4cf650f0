-- The sets that COMMITs hold, for rules 1 and 2 of the turn order: PROTOCOL, section 7, with counts in place of weights (13.4).
use Rattle.std.specs.Prelude.{ℕ, Bool, ◌&&◌, List, leb}
use Rattle.quorum.specs.Total.{count}
use Rattle.quorum.specs.Lowest.{lowest}
use Rattle.commits.specs.Commits.{commit_held, same_set, set_of}

-- how many of the senders 1 to n hold the set of sender p
unfoldable pub set_holders : List ℕ → ℕ → ℕ → ℕ
set_holders s n p = count (λ q. commit_held s q && same_set s p q) n

-- sender p holds a set that k senders hold
unfoldable pub set_leads : List ℕ → ℕ → ℕ → ℕ → Bool
set_leads s n k p = commit_held s p && leb k (set_holders s n p)

-- the lowest sender with a set that k of the senders 1 to n hold, and 0 if there is none
unfoldable pub set_leader : List ℕ → ℕ → ℕ → ℕ
set_leader s n k = lowest (set_leads s n k) n

-- a set that k senders hold; among several that of the lowest-numbered sender (PROTOCOL 7.2)
unfoldable pub leading_set : List ℕ → ℕ → ℕ → List ℕ
leading_set s n k = set_of s (set_leader s n k)
