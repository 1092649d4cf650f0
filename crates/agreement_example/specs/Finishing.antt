-- The session of specs/Weighted.antt in version 2: votes wind up with FINISHes. Votes 1 and 3 are decided 1, and vote 2 is decided 0, by moves of
-- the heavy concentrator 1 only; its FINISHes weigh 4, which is more than 2·ta+1 = 3, and so decide the votes of 2 by their delivery.
-- 2 leaves no round: it sends what it was decided as its FINISHes, and both close by Exit 2.
use Rattle.std.specs.Prelude.{ℕ, ◌+◌, ◌^◌, true, false, List, [], ◌∷◌, ◌≡◌}
use Rattle.settings.specs.Versions.{FINISH_VERSION}
use Rattle.records.specs.Records.{round, decided_zero, decided_one, decided}
use Rattle.records.specs.Words.{blank}
use Rattle.wire.specs.declared.Message.{Message}
use Rattle.wire.specs.declared.Message.TheVariants.{Send, Echo, Ready, Est, Aux, Commit, Finish}
use Rattle.calls.specs.Machine.{Call, opening, report}
use Rattle.calls.specs.Engine.{engine, Agreed}
use Rattle.agreement_check.specs.Checking.{words_of, run}
use Rattle.agreement_check.specs.Example.{Example, FromAny}
use Rattle.agreement_example.specs.Messages.{input_five, opening_in, deliver_in, turn_of}
use Rattle.agreement_example.specs.Weighted.{first_two, turns}

abbrev pub session : Agreed
session = record { version = 2; settings = record { n = 3; ta = 1; ts = 1; whole = 6; weights = 2 ^ 48 + 2 ^ 32 + 2 ^ 16 + 7 }; number = 7; coins = 1 ∷ 0 ∷ 1 ∷ []; boxed = 0 }

-- The last call stands first; `cs` are the calls before.

unfoldable pub openings : List (Call engine)
openings = opens 2 ∷ opens 1 ∷ []
  where
    opens : ℕ → Call engine
    opens p = opening p (opening_in FINISH_VERSION 3 1 1 (1 ∷ 0 ∷ 1 ∷ []) (4 ∷ 1 ∷ 1 ∷ []) 0 p 5)

-- the message m of p, with the set xs in a COMMIT, delivered to each honest one
unfoldable pub to_both : ℕ → Message → List ℕ → List (Call engine) → List (Call engine)
to_both p m xs cs = deliver_in FINISH_VERSION 2 p m xs ∷ deliver_in FINISH_VERSION 1 p m xs ∷ cs

-- the same message of each honest one
unfoldable pub from_both : Message → List ℕ → List (Call engine) → List (Call engine)
from_both m xs cs = to_both 2 m xs (to_both 1 m xs cs)

-- two turns of each honest one, and what they sent: m and then k
unfoldable pub twice : Message → Message → List (Call engine) → List (Call engine)
twice m k cs = from_both k [] (from_both m [] (turns (turns cs)))

-- broadcasts 1 and 3, as without FINISHes
unfoldable pub until_readies : List (Call engine)
until_readies =
    twice (Ready 1 5) (Ready 3 6)
    (twice (Echo 1 5) (Echo 3 6)
    (to_both 3 (Send 3 6) [] (to_both 1 (Send 1 5) [] (turns openings))))

-- votes 1 and 3 start with 1, up to their AUXs
unfoldable pub until_auxes : List (Call engine)
until_auxes = twice (Aux 1 1 1) (Aux 3 1 1) (twice (Est 1 1 1) (Est 3 1 1) until_readies)

-- 1 moves in vote 1, which decides it, and sends FINISH; it moves in vote 3, so that vote 2, which goes before vote 3, starts with 0; then it
-- sends FINISH of vote 3. 2 does nothing.
unfoldable pub first_finishes : List (Call engine)
first_finishes = turn_of 1 ∷ turn_of 1 ∷ turn_of 1 ∷ turn_of 1 ∷ turn_of 1 ∷ until_auxes

-- the FINISHes of 1 decide votes 1 and 3 at 2, which sends its own, and starts vote 2
unfoldable pub until_finishes : List (Call engine)
until_finishes = turn_of 2 ∷ turn_of 2 ∷ turn_of 2 ∷ to_both 1 (Finish 3 1) [] (to_both 1 (Finish 1 1) [] first_finishes)

-- vote 2, up to its AUXs; 1 moves, which decides it, sends its COMMIT and then FINISH
unfoldable pub last_finish : List (Call engine)
last_finish =
    turn_of 1 ∷ turn_of 1 ∷ turn_of 1
    ∷ from_both (Aux 2 1 0) [] (turns (from_both (Est 2 1 0) []
    (to_both 2 (Finish 3 1) [] (to_both 2 (Finish 1 1) [] until_finishes))))

-- it decides vote 2 at 2, then the COMMITs
unfoldable pub finishing_calls : List (Call engine)
finishing_calls =
    report 1 (blank 16, blank 16)
    ∷ turns (from_both (Commit 1) (5 ∷ []) (turn_of 2 ∷ to_both 1 (Finish 2 0) [] last_finish))

abbrev pub FinishingMeet : Type 0
FinishingMeet = FromAny session first_two (λ start. Example start session first_two input_five finishing_calls 2 (5 ∷ []))

-- the words of 2 after some calls
abbrev pub at_second : List (Call engine) → List ℕ
at_second cs = words_of (run session first_two input_five cs).states 2

-- at 2 the votes are open until the FINISHes come, and are decided then, in round 1
pub record DecidedByFinishes : Type 0 where
  pub first_open : decided (at_second first_finishes) 1 ≡ false
  pub first_decided : decided_one (at_second until_finishes) 1 ≡ true
  pub third_decided : decided_one (at_second until_finishes) 3 ≡ true
  pub second_open : decided (at_second last_finish) 2 ≡ false
  pub second_decided : decided_zero (at_second finishing_calls) 2 ≡ true
  pub first_round : round (at_second finishing_calls) 1 ≡ 1
  pub second_round : round (at_second finishing_calls) 2 ≡ 1
