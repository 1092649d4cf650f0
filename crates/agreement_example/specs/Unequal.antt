-- Four concentrators of weight 1: n = 4, ta = ts = 1, session 7; the coins of round 1 are 1 in votes 1 to 3 and 0 in vote 4. Concentrators 1, 2
-- and 3 put in 5, 6 and 7; 4 lies: it never sends.
-- Broadcasts 1, 2 and 3 have different outputs, so there is no Exit 1 and the votes run. Votes 1 to 3 are decided 1, which is s = 3 = n−ta; only
-- then vote 4 starts, with 0, and is decided 0. In S = {1, 2, 3} no output has a majority: Exit 3 names all three.
use Rattle.std.specs.Prelude.{ℕ, ◌+◌, List, [], ◌∷◌}
use Rattle.records.specs.Words.{blank}
use Rattle.wire.specs.declared.Message.{Message}
use Rattle.wire.specs.declared.Message.TheVariants.{Send, Echo, Ready, Est, Aux, Commit}
use Rattle.opening.specs.Given.{ones_given}
use Rattle.calls.specs.Machine.{Call, opening, report}
use Rattle.calls.specs.Engine.{engine, Agreed}
use Rattle.agreement_check.specs.Example.{Example, FromAny}
use Rattle.agreement_example.specs.Messages.{opening_with}
use Rattle.agreement_example.specs.Four.{first_three, turns, to_all, from_all}

abbrev pub session : Agreed
session = record { version = 1; settings = record { n = 4; ta = 1; ts = 1; whole = 4; weights = 15 }; number = 7; coins = 1 ∷ 1 ∷ 1 ∷ 0 ∷ []; boxed = 0 }

-- what p puts in
abbrev pub input_of : ℕ → ℕ
input_of p = p + 4

-- The last call stands first; `cs` are the calls before.

unfoldable pub openings : List (Call engine)
openings = opens 3 ∷ opens 2 ∷ opens 1 ∷ []
  where
    opens : ℕ → Call engine
    opens p = opening p (opening_with 4 1 1 (1 ∷ 1 ∷ 1 ∷ 0 ∷ []) (ones_given 4) 0 p (input_of p))

-- three turns of each honest one, and what they sent, which is one message for each of the instances 1, 2 and 3
unfoldable pub in_each : (ℕ → Message) → List (Call engine) → List (Call engine)
in_each m cs = from_all (m 3) [] (from_all (m 2) [] (from_all (m 1) [] (turns (turns (turns cs)))))

unfoldable pub until_sends : List (Call engine)
until_sends = to_all 3 (Send 3 7) [] (to_all 2 (Send 2 6) [] (to_all 1 (Send 1 5) [] (turns openings)))

-- the broadcasts have their outputs
unfoldable pub until_readies : List (Call engine)
until_readies = in_each (λ i. Ready i (input_of i)) (in_each (λ i. Echo i (input_of i)) until_sends)

-- votes 1 to 3 start with 1, up to their AUXs
unfoldable pub until_auxes : List (Call engine)
until_auxes = in_each (λ i. Aux i 1 1) (in_each (λ i. Est i 1 1) until_readies)

-- they are decided, and then vote 4 starts with 0, up to its AUXs
unfoldable pub until_last_auxes : List (Call engine)
until_last_auxes = from_all (Aux 4 1 0) [] (turns (from_all (Est 4 1 0) [] (turns (turns (turns (turns until_auxes))))))

-- it is decided, then the COMMITs
unfoldable pub unequal_calls : List (Call engine)
unequal_calls = report 1 (blank 16, blank 16) ∷ turns (from_all (Commit 3) (5 ∷ 6 ∷ 7 ∷ []) (turns (turns until_last_auxes)))

abbrev pub UnequalMeet : Type 0
UnequalMeet = FromAny session first_three (λ start. Example start session first_three input_of unequal_calls 3 (5 ∷ 6 ∷ 7 ∷ []))
