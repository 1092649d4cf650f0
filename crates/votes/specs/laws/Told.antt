-- What an act of rule 6 tells of the state it was due in.
use Rattle.std.specs.Prelude.{ℕ, ◌≤◌, Bool, true, false, List, ◌⊎◌, ◌≡◌}
use Rattle.settings.specs.Settings.{vote_quorum, relay, round_limit}
use Rattle.settings.specs.Versions.{finishing}
use Rattle.settings.specs.declared.Settings.{Settings}
use Rattle.records.specs.Records.{round, est_sent, aux_sent, one_first, coin_known, finish_sent, decided_zero, decided_one, version}
use Rattle.acts.specs.declared.Act.{Act}
use Rattle.acts.specs.declared.Act.TheVariants.{Idle, InForce, Commit, Send, Echo, Ready, Start, Relay, Aux, Move, Finish}
use Rattle.acts.specs.declared.View.{View}
use Rattle.acts.specs.declared.View.TheVariants.{Only, Both}
use Rattle.votes.specs.Votes.{est_count, accepted, aux_count, carriers}
use Rattle.votes.specs.Finishing.{finish_count}

-- vote i starts with b
pub record StartTold (g : Settings) (s : List ℕ) (output : Bool) (ones i b : ℕ) : Type 0 where
  pub before : round s i ≡ 0
  pub bit : b ≤ 1
  pub one : b ≡ 1 → output ≡ true
  pub zero : b ≡ 0 → output ≡ false
  pub enough : b ≡ 0 → vote_quorum g ≤ ones

-- EST b is relayed in round r
pub record RelayTold (g : Settings) (s : List ℕ) (i r b : ℕ) : Type 0 where
  pub low : 1 ≤ r
  pub high : r ≤ round_limit
  pub reached : r ≤ round s i
  pub bit : b ≤ 1
  pub held : relay g ≤ est_count g s i r b
  pub unsent : est_sent s i r b ≡ false

-- AUX b is sent in round r; where the other value is accepted too, the mark tells which was first
pub record AuxTold (g : Settings) (s : List ℕ) (i r b : ℕ) : Type 0 where
  pub current : r ≡ round s i
  pub low : 1 ≤ r
  pub high : r ≤ round_limit
  pub bit : b ≤ 1
  pub is_accepted : accepted g s i r b ≡ true
  pub unsent : aux_sent s i r ≡ false
  pub zero_first : b ≡ 0 → accepted g s i r 1 ≡ true → one_first s i r ≡ false
  pub one_first_lem : b ≡ 1 → accepted g s i r 0 ≡ true → one_first s i r ≡ true

-- the counted AUXs carry b only
pub record OnlyShown (g : Settings) (s : List ℕ) (i r b : ℕ) : Type 0 where
  pub bit : b ≤ 1
  pub is_accepted : accepted g s i r b ≡ true
  pub carried : vote_quorum g ≤ aux_count g s i r b

-- the counted AUXs carry 0 and 1
pub record BothShown (g : Settings) (s : List ℕ) (i r : ℕ) : Type 0 where
  pub zero_accepted : accepted g s i r 0 ≡ true
  pub one_accepted : accepted g s i r 1 ≡ true
  pub zero_carried : 1 ≤ aux_count g s i r 0
  pub one_carried : 1 ≤ aux_count g s i r 1

abbrev pub Shown : Settings → List ℕ → ℕ → ℕ → View → Type 0
Shown g s i r (Only b) = OnlyShown g s i r b
Shown g s i r Both = BothShown g s i r

-- round r is left with view v
pub record MoveTold (g : Settings) (s : List ℕ) (i r : ℕ) (v : View) : Type 0 where
  pub current : r ≡ round s i
  pub low : 1 ≤ r
  pub high : r ≤ round_limit
  pub sent : aux_sent s i r ≡ true
  pub known : coin_known s i r ≡ true
  pub enough : vote_quorum g ≤ carriers g s i r
  pub shown : Shown g s i r v

-- vote i is decided b
abbrev pub DecidedAs : List ℕ → ℕ → ℕ → Type 0
DecidedAs s i b = (b ≡ 0 → decided_zero s i ≡ true) × (b ≡ 1 → decided_one s i ≡ true)

-- FINISH b is sent: a decision b stands, or FINISHes of b are repeated
pub record FinishTold (g : Settings) (s : List ℕ) (i b : ℕ) : Type 0 where
  pub allowed : finishing (version s) ≡ true
  pub bit : b ≤ 1
  pub unsent : finish_sent s i ≡ false
  pub basis : DecidedAs s i b ⊎ (relay g ≤ finish_count g s i b)

-- an act of one of the votes in Vote, where `output i` tells whether broadcast i has output
abbrev pub Told : Settings → List ℕ → (ℕ → Bool) → ℕ → (ℕ → Type 0) → Act → Type 0
Told g s output ones Vote Idle = Unit {0}
Told g s output ones Vote InForce = ⊥
Told g s output ones Vote (Commit k) = ⊥
Told g s output ones Vote (Send v) = ⊥
Told g s output ones Vote (Echo i v) = ⊥
Told g s output ones Vote (Ready i v) = ⊥
Told g s output ones Vote (Start i b) = Vote i × StartTold g s (output i) ones i b
Told g s output ones Vote (Relay i r b) = Vote i × RelayTold g s i r b
Told g s output ones Vote (Aux i r b) = Vote i × AuxTold g s i r b
Told g s output ones Vote (Move i r v) = Vote i × MoveTold g s i r v
Told g s output ones Vote (Finish i b) = Vote i × FinishTold g s i b

-- the votes 1 to n
pub record Among (n i : ℕ) : Type 0 where
  pub low : 1 ≤ i
  pub high : i ≤ n
