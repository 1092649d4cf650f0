-- What messages say, and which of them the words of a state hold. Numbers are within the layout, since addresses outside it stand for
-- other records.
use Rattle.std.specs.Prelude.{ℕ, ◌≤◌, true, List, ◌≡◌}
use Rattle.records.specs.Records.{send_held, send_value, echo_held, echo_value, ready_held, ready_value, est_held, aux_held, finish_held, commit_set}
use Rattle.commits.specs.Commits.{commit_held}
use Rattle.wire.specs.declared.Message as wire_message
use Rattle.wire.specs.declared.Message.TheVariants as wire

-- what a message says, beside its sender; the instance of a SEND is its sender
pub data Message : Type 0 where
  SEND : ℕ → Message
  ECHO READY : ℕ → ℕ → Message
  EST AUX : ℕ → ℕ → ℕ → Message
  COMMIT : List ℕ → Message
  FINISH : ℕ → ℕ → Message

-- what a message says, with the values xs that stand beside a COMMIT
abbrev pub meaning : wire_message.Message → List ℕ → Message
meaning (wire.Send i v) xs = SEND v
meaning (wire.Echo i v) xs = ECHO i v
meaning (wire.Ready i v) xs = READY i v
meaning (wire.Est i r b) xs = EST i r b
meaning (wire.Aux i r b) xs = AUX i r b
meaning (wire.Commit k) xs = COMMIT xs
meaning (wire.Finish i b) xs = FINISH i b

-- a concentrator or an instance
pub record Numbered (i : ℕ) : Type 0 where
  pub low : 1 ≤ i
  pub high : i ≤ 16

-- a vote, a round and a value
pub record Voting (i r b : ℕ) : Type 0 where
  pub instance : Numbered i
  pub first : 1 ≤ r
  pub last : r ≤ 32
  pub bit : b ≤ 1

-- a message of instance i is held with the value v
pub record Valued (i : ℕ) (held : Type 0) (value v : ℕ) : Type 0 where
  pub instance : Numbered i
  pub there : held
  pub same : value ≡ v

-- a vote's message is held
pub record Cast (i r b : ℕ) (held : Type 0) : Type 0 where
  pub vote : Voting i r b
  pub there : held

-- a vote's FINISH of b is held
pub record Finishing (i b : ℕ) (held : Type 0) : Type 0 where
  pub instance : Numbered i
  pub bit : b ≤ 1
  pub there : held

-- a COMMIT is held with the set X
pub record Committed (held : Type 0) (set X : List ℕ) : Type 0 where
  pub there : held
  pub same : set ≡ X

-- the message of sender m is held
abbrev pub holds : List ℕ → ℕ → Message → Type 0
holds s m (SEND v) = Valued m (send_held s m ≡ true) (send_value s m) v
holds s m (ECHO i v) = Valued i (echo_held s i m ≡ true) (echo_value s i m) v
holds s m (READY i v) = Valued i (ready_held s i m ≡ true) (ready_value s i m) v
holds s m (EST i r b) = Cast i r b (est_held s i r b m ≡ true)
holds s m (AUX i r b) = Cast i r b (aux_held s i r b m ≡ true)
holds s m (COMMIT X) = Committed (commit_held s m ≡ true) (commit_set s m) X
holds s m (FINISH i b) = Finishing i b (finish_held s i b m ≡ true)
