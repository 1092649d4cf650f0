-- Three concentrators of weights 4, 1 and 1: ta = ts = 1, session 7; the coins of round 1 are 1, 0 and 1. Concentrators 1 and 2 put in 5;
-- 3 lies and puts in 6. The broadcast of 2 is late, so that the votes decide.
-- W = 6: a broadcast has output, a vote moves and a set is in force from weight 5 on, so nothing happens without the heavy one, and beside
-- it one of the others. Votes 1 and 3 are decided 1, which is s = 5; only then vote 2 starts with 0. In S = {1, 3} the output 5 weighs 4 of
-- 5: Exit 2 names {5}. By heads it were one of two, no majority, and Exit 3 would name {5, 6}.
use Rattle.std.specs.Prelude.{ℕ, ◌+◌, ◌^◌, Bool, List, [], ◌∷◌, leb}
use Rattle.records.specs.Words.{blank}
use Rattle.wire.specs.declared.Message.{Message}
use Rattle.wire.specs.declared.Message.TheVariants.{Send, Echo, Ready, Est, Aux, Commit}
use Rattle.calls.specs.Machine.{Call, opening, report}
use Rattle.calls.specs.Engine.{engine, Agreed}
use Rattle.agreement_check.specs.Example.{Example, FromAny}
use Rattle.agreement_example.specs.Messages.{input_five, opening_with, deliver, turn_of}

-- the weights as one word: 1 has the marks 1, 17, 33 and 49, 2 and 3 the marks 2 and 3
abbrev pub session : Agreed
session = record { version = 1; settings = record { n = 3; ta = 1; ts = 1; whole = 6; weights = 2 ^ 48 + 2 ^ 32 + 2 ^ 16 + 7 }; number = 7; coins = 1 ∷ 0 ∷ 1 ∷ []; boxed = 0 }

abbrev pub first_two : ℕ → Bool
first_two p = leb p 2

unfoldable pub openings : List (Call engine)
openings = opens 2 ∷ opens 1 ∷ []
  where
    opens : ℕ → Call engine
    opens p = opening p (opening_with 3 1 1 (1 ∷ 0 ∷ 1 ∷ []) (4 ∷ 1 ∷ 1 ∷ []) 0 p 5)

-- a turn of each honest one
unfoldable pub turns : List (Call engine) → List (Call engine)
turns cs = turn_of 2 ∷ turn_of 1 ∷ cs

-- the message m of p, with the set xs in a COMMIT, delivered to each honest one
unfoldable pub to_both : ℕ → Message → List ℕ → List (Call engine) → List (Call engine)
to_both p m xs cs = deliver 2 p m xs ∷ deliver 1 p m xs ∷ cs

-- the same message of each honest one
unfoldable pub from_both : Message → List ℕ → List (Call engine) → List (Call engine)
from_both m xs cs = to_both 2 m xs (to_both 1 m xs cs)

-- two turns of each honest one, and what they sent: m and then k
unfoldable pub twice : Message → Message → List (Call engine) → List (Call engine)
twice m k cs = from_both k [] (from_both m [] (turns (turns cs)))

-- broadcasts 1 and 3, after the openings
unfoldable pub with_readies : List (Call engine) → List (Call engine)
with_readies cs =
    twice (Ready 1 5) (Ready 3 6)
    (twice (Echo 1 5) (Echo 3 6)
    (to_both 3 (Send 3 6) [] (to_both 1 (Send 1 5) [] (turns cs))))

-- votes 1 and 3 start with 1, up to their AUXs
unfoldable pub with_auxes : List (Call engine) → List (Call engine)
with_auxes cs = twice (Aux 1 1 1) (Aux 3 1 1) (twice (Est 1 1 1) (Est 3 1 1) (with_readies cs))

-- both are decided, and then vote 2 starts with 0, up to its AUXs
unfoldable pub with_last_auxes : List (Call engine) → List (Call engine)
with_last_auxes cs = from_both (Aux 2 1 0) [] (turns (from_both (Est 2 1 0) [] (turns (turns (turns cs)))))

-- it is decided, then the COMMITs
unfoldable pub with_sets : List (Call engine) → List (Call engine)
with_sets cs = report 1 (blank 16, blank 16) ∷ turns (from_both (Commit 1) (5 ∷ []) (turns (turns cs)))

unfoldable pub weighted_calls : List (Call engine)
weighted_calls = with_sets (with_last_auxes (with_auxes openings))

abbrev pub WeightedMeet : Type 0
WeightedMeet = FromAny session first_two (λ start. Example start session first_two input_five weighted_calls 2 (5 ∷ []))
