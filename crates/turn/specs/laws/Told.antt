-- What an act that is due tells of the state: its evidence.
use Rattle.std.specs.Prelude.{ℕ, ◌≤◌, true, false, List, ◌≢◌, ◌≡◌, length, Some}
use Rattle.settings.specs.Settings.{quorum, repeat}
use Rattle.settings.specs.declared.Settings.{Settings}
use Rattle.records.specs.Layout.{input_at}
use Rattle.records.specs.Words.{word}
use Rattle.records.specs.Records.{send_sent, commit_sent, echo_sent, ready_sent, send_held, send_value, commit_set}
use Rattle.acts.specs.declared.Act.{Act}
use Rattle.acts.specs.declared.Act.TheVariants.{Idle, InForce, Commit, Send, Echo, Ready, Start, Relay, Aux, Move, Finish}
use Rattle.broadcasts.specs.Leading.{present}
use Rattle.broadcasts.specs.Broadcasts.{output, ready_due}
use Rattle.votes.specs.Votes.{votes_decided_one}
use Rattle.votes.specs.laws.Told.{StartTold, RelayTold, AuxTold, MoveTold, FinishTold, Among}
use Rattle.commits.specs.Commits.{commit_held, set_holders}
use Rattle.turn.specs.Due.{commit_due}
use Rattle.exits.specs.Exits.{exit_now}

-- sender p holds a set that senders of weight k hold
pub record SetHeld (g : Settings) (s : List ℕ) (k p : ℕ) : Type 0 where
  pub low : 1 ≤ p
  pub high : p ≤ g.n
  pub held : commit_held s p ≡ true
  pub enough : k ≤ set_holders g s p

-- what a COMMIT's set rests on: an exit that names it, or ts + 1 senders that hold it
pub data Rests (g : Settings) (s : List ℕ) : Type 0 where
  on_exit : (exit_now g s).number ≢ 0 → commit_due g s ≡ (exit_now g s).names → Rests g s
  on_copies : (p : ℕ) → SetHeld g s (repeat g) p → commit_due g s ≡ commit_set s p → Rests g s

pub record CommitTold (g : Settings) (s : List ℕ) (k : ℕ) : Type 0 where
  pub unsent : commit_sent s ≡ false
  pub some : 1 ≤ k
  pub few : k ≤ 16
  pub sized : length (commit_due g s) ≡ k
  pub rests : Rests g s

pub record InForceTold (g : Settings) (s : List ℕ) : Type 0 where
  pub sender : ℕ
  pub holds : SetHeld g s (quorum g) sender

pub record SendTold (s : List ℕ) (v : ℕ) : Type 0 where
  pub unsent : send_sent s ≡ false
  pub own : v ≡ word s input_at

pub record EchoTold (g : Settings) (s : List ℕ) (i v : ℕ) : Type 0 where
  pub among : Among g.n i
  pub unsent : echo_sent s i ≡ false
  pub held : send_held s i ≡ true
  pub same : v ≡ send_value s i

-- broadcasts' `ready-rests` tells what the value rests on
pub record ReadyTold (g : Settings) (s : List ℕ) (i v : ℕ) : Type 0 where
  pub among : Among g.n i
  pub unsent : ready_sent s i ≡ false
  pub rests : ready_due g s i ≡ Some v

-- the evidence of an act, where Set k is that of a COMMIT of k values
abbrev pub Evidence : Settings → List ℕ → (ℕ → Type 0) → Act → Type 0
Evidence g s Set Idle = Unit {0}
Evidence g s Set InForce = InForceTold g s
Evidence g s Set (Commit k) = Set k
Evidence g s Set (Send v) = SendTold s v
Evidence g s Set (Echo i v) = EchoTold g s i v
Evidence g s Set (Ready i v) = ReadyTold g s i v
Evidence g s Set (Start i b) = Among g.n i × StartTold g s (present (output g s i)) (votes_decided_one g s) i b
Evidence g s Set (Relay i r b) = Among g.n i × RelayTold g s i r b
Evidence g s Set (Aux i r b) = Among g.n i × AuxTold g s i r b
Evidence g s Set (Move i r v) = Among g.n i × MoveTold g s i r v
Evidence g s Set (Finish i b) = Among g.n i × FinishTold g s i b

abbrev pub ActTold : Settings → List ℕ → Act → Type 0
ActTold g s a = Evidence g s (CommitTold g s) a
