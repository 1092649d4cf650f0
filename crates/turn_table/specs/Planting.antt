-- States planted for the table: what stands in a state that was opened with n = 4, ts = 1, weights of 1, the own number 1 and the input 5, in version 1 if not said otherwise.
-- The coins of vote 2 are 1, and so is that of vote 3 in round 2; the others are 0.
use Rattle.std.specs.Prelude.{ℕ, ◌-◌, ◌^◌, List, [], ◌∷◌, length}
use Rattle.settings.specs.declared.Settings.{Settings}
use Rattle.records.specs.Layout.{version_at}
use Rattle.records.specs.Words.{put}
use Rattle.records.specs.Writing.{with_one_first, with_round, with_decision}
use Rattle.acts.specs.declared.Act.{Act}
use Rattle.acts.specs.declared.Act.TheVariants as act
use Rattle.wire.specs.Bytes.{value_bytes}
use Rattle.wire.specs.declared.Message.{Message}
use Rattle.wire.specs.declared.Message.TheVariants.{Ready, Commit}
use Rattle.opening.specs.Arguments.{arguments}
use Rattle.opening.specs.Opening.{open_words}
use Rattle.delivery.specs.Delivery.{recorded}
use Rattle.turn.specs.Due.{due}
use Rattle.turn.specs.Turn.{done}

abbrev pub four : ℕ → Settings
four ta = record { n = 4; ta = ta; ts = 1; whole = 4; weights = 15 }

unfoldable pub opened_state : ℕ → List ℕ
opened_state ta = open_words (arguments 1 4 ta 1 1 7 5 (0 ∷ (2 ^ 32 - 1) ∷ 2 ∷ 0 ∷ []) (1 ∷ 1 ∷ 1 ∷ 1 ∷ []) 0)

-- senders of messages
abbrev pub two : List ℕ
two = 2 ∷ 3 ∷ []

abbrev pub three : List ℕ
three = 2 ∷ 3 ∷ 4 ∷ []

pub data Fact : Type 0 where
  -- a message held from each of these senders
  from : List ℕ → Message → Fact
  -- a COMMIT of this set held from each of these senders
  commits : List ℕ → List ℕ → Fact
  -- an act that a turn did
  did : Act → Fact
  -- vote i is in round r
  in_round : ℕ → ℕ → Fact
  -- vote i is decided b
  is_decided : ℕ → ℕ → Fact
  -- the state has the mark that in round r of vote i 1 was accepted before 0
  one_was_first : ℕ → ℕ → Fact
  -- the session is of version v
  of_version : ℕ → Fact

-- v are the bytes from byte 12 on
unfoldable pub recorded_from : List ℕ → List ℕ → Message → List ℕ → List ℕ
recorded_from s [] m v = s
recorded_from s (p ∷ ps) m v = recorded_from (recorded s p m v) ps m v

unfoldable pub with_fact : List ℕ → Fact → List ℕ
with_fact s (from ps m) = recorded_from s ps m []
with_fact s (commits ps xs) = recorded_from s ps (Commit (length xs)) (value_bytes xs)
with_fact s (did a) = done s a
with_fact s (in_round i r) = with_round s i r
with_fact s (is_decided i b) = with_decision s i b
with_fact s (one_was_first i r) = with_one_first s i r
with_fact s (of_version v) = put s version_at v

unfoldable pub with_facts : List ℕ → List Fact → List ℕ
with_facts s [] = s
with_facts s (f ∷ fs) = with_facts (with_fact s f) fs

unfoldable pub planted : ℕ → List Fact → List ℕ
planted ta fs = with_facts (opened_state ta) fs

-- the output 5 of broadcast i, and the own READY sent
unfoldable pub output5 : ℕ → List Fact → List Fact
output5 i fs = from three (Ready i 5) ∷ did (act.Ready i 5) ∷ fs

-- votes 1 and 2 are decided 1, vote 3 is decided b, and no round of theirs is left
unfoldable pub decided_three : ℕ → List Fact → List Fact
decided_three b fs = is_decided 1 1 ∷ is_decided 2 1 ∷ is_decided 3 b ∷ in_round 1 33 ∷ in_round 2 33 ∷ in_round 3 33 ∷ fs

-- a state, and the act that is due there
pub record Row : Type 0 where
  pub facts : List Fact
  pub act : Act

unfoldable pub row : Act → List Fact → Row
row a fs = record { facts = fs; act = a }

-- .. once the own input is sent
unfoldable pub later_row : Act → List Fact → Row
later_row a fs = row a (did (act.Send 5) ∷ fs)

-- .. in a session of version 2
unfoldable pub finish_row : Act → List Fact → Row
finish_row a fs = later_row a (of_version 2 ∷ fs)

unfoldable pub acts : List Row → List Act
acts [] = []
acts (r ∷ rs) = r.act ∷ acts rs

unfoldable pub due_acts : ℕ → List Row → List Act
due_acts ta [] = []
due_acts ta (r ∷ rs) = due (four ta) (planted ta r.facts) ∷ due_acts ta rs
