-- What a move sends and decides, with ta = 1.
use Rattle.std.specs.Prelude.{ℕ, Bool, cond, List, [], ◌∷◌, ◌++◌, Result, Ok}
use Rattle.settings.specs.declared.refusal.Refusal.{Refusal}
use Rattle.records.specs.Records.{round, est_sent, decided_zero, decided_one}
use Rattle.acts.specs.declared.Act.TheVariants as act
use Rattle.wire.specs.declared.Message.TheVariants.{Est, Aux}
use Rattle.turn.specs.Turn.{turn_outcome, turn_words}
use Rattle.turn.specs.declared.Outcome.{Outcome}
use Rattle.turn.specs.declared.Outcome.TheVariants.{Sent, MovedOut}
use Rattle.turn_table.specs.Planting.{Fact, planted, two, three, from, did, in_round, is_decided}

-- after a turn: its answer, and of one vote the round, the values of the ESTs marked as sent in it, and the values it is decided as
pub record After : Type 0 where
  pub outcome : Result Outcome Refusal
  pub round : ℕ
  pub sent : List ℕ
  pub decided : List ℕ

-- of the values 0 and 1 those that are so
unfoldable pub values_if : Bool → Bool → List ℕ
values_if zero one = cond zero (0 ∷ []) [] ++ cond one (1 ∷ []) []

-- the answer o of a turn that leaves the words s
unfoldable pub after_with : ℕ → Result Outcome Refusal → List ℕ → After
after_with i o s =
    record {
      outcome = o;
      round = round s i;
      sent = values_if (est_sent s i (round s i) 0) (est_sent s i (round s i) 1);
      decided = values_if (decided_zero s i) (decided_one s i);
    }

-- a turn in s, lent 140 bytes
unfoldable pub after_turn : ℕ → List ℕ → After
after_turn i s = after_with i (turn_outcome s 140) (turn_words s 140)

-- round r of vote i is entered with EST b
unfoldable pub enters : ℕ → ℕ → ℕ → List ℕ → After
enters i r b bs = record { outcome = Ok (Sent (Est i r b)); round = r; sent = b ∷ []; decided = bs }

unfoldable pub moves_out : List ℕ → After
moves_out bs = record { outcome = Ok MovedOut; round = 33; sent = []; decided = bs }

-- a state in which a vote moves, and what stands after it
pub record MoveRow : Type 0 where
  pub vote : ℕ
  pub facts : List Fact
  pub then : After

unfoldable pub thens : List MoveRow → List After
thens [] = []
thens (r ∷ rs) = r.then ∷ thens rs

unfoldable pub afters : ℕ → List MoveRow → List After
afters ta [] = []
afters ta (r ∷ rs) = after_turn r.vote (planted ta r.facts) ∷ afters ta rs

-- vote i in round r: both values are accepted, their ESTs and the AUX sent; these senders' AUXs carry 0 and 1
unfoldable pub move_row : ℕ → ℕ → List ℕ → List ℕ → List Fact → After → MoveRow
move_row i r zeros ones fs a =
    record {
      vote = i;
      facts =
          did (act.Send 5)
          ∷ in_round i r
          ∷ did (act.Relay i r 0)
          ∷ did (act.Relay i r 1)
          ∷ did (act.Aux i r 0)
          ∷ from (1 ∷ 2 ∷ 3 ∷ []) (Est i r 0)
          ∷ from three (Est i r 1)
          ∷ from zeros (Aux i r 0)
          ∷ from ones (Aux i r 1)
          ∷ fs;
      then = a;
    }

unfoldable pub moved_rows : List MoveRow
moved_rows =
    -- both carried: the estimate is the coin, 0 in vote 1, 1 in vote 2, 1 in round 2 of vote 3; nothing is decided
    move_row 1 1 (2 ∷ []) (3 ∷ 4 ∷ []) [] (enters 1 2 0 [])
    ∷ move_row 2 1 two (4 ∷ []) [] (enters 2 2 1 [])
    ∷ move_row 3 2 two (4 ∷ []) [] (enters 3 3 1 [])
    -- one value that equals the coin is decided
    ∷ move_row 1 1 three [] [] (enters 1 2 0 (0 ∷ []))
    ∷ move_row 2 1 [] three [] (enters 2 2 1 (1 ∷ []))
    ∷ move_row 3 2 [] three [] (enters 3 3 1 (1 ∷ []))
    -- one that does not is the estimate all the same
    ∷ move_row 1 1 [] three [] (enters 1 2 1 [])
    ∷ move_row 2 1 three [] [] (enters 2 2 0 [])
    -- a decision that stands stays, and no other is put beside it
    ∷ move_row 1 1 three [] (is_decided 1 1 ∷ []) (enters 1 2 0 (1 ∷ []))
    ∷ move_row 2 1 [] three (is_decided 2 0 ∷ []) (enters 2 2 1 (0 ∷ []))
    -- round 32 is entered like any other; moving out of it sends nothing, and decides
    ∷ move_row 2 31 (2 ∷ []) (3 ∷ 4 ∷ []) [] (enters 2 32 1 [])
    ∷ move_row 2 32 (2 ∷ []) (3 ∷ 4 ∷ []) [] (moves_out [])
    ∷ move_row 2 32 [] three [] (moves_out (1 ∷ []))
    ∷ []
