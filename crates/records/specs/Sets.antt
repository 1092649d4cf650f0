-- The set in a COMMIT, copied out of the state.
use Rattle.std.specs.Prelude.{ℕ, ◌≤◌, List, ◌++◌, ◌≡◌, length, drop}
use Rattle.settings.specs.Settings.{max_concentrators}
use Rattle.records.specs.Layout.{state_words}
use Rattle.records.specs.Records.{commit_count, commit_set}

-- a whole state, and room for the longest set
pub record SetRoom (s : List ℕ) (p : ℕ) (out : List ℕ) : Type 0 where
  pub size : length s ≡ state_words
  pub sender : p ≤ max_concentrators
  pub room : max_concentrators ≤ length out

-- the set of sender p stands at the front of what was old
pub record SetCopied (s : List ℕ) (p : ℕ) (old new : List ℕ) (count : ℕ) : Type 0 where
  pub words : new ≡ commit_set s p ++ drop count old
  pub counted : count ≡ commit_count s p
  pub sized : length (commit_set s p) ≡ count
