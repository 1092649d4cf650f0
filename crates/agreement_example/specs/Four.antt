-- Four concentrators of weight 1: n = 4, ta = ts = 1, session 7, coin words of 0. Concentrators 1, 2 and 3 put in 5; 4 lies.
use Rattle.std.specs.Prelude.{ℕ, Bool, List, [], ◌∷◌, leb}
use Rattle.settings.specs.Settings.{UNNAMED}
use Rattle.records.specs.Words.{blank}
use Rattle.wire.specs.Message.{encode}
use Rattle.wire.specs.declared.Message.{Message}
use Rattle.wire.specs.declared.Message.TheVariants.{Send, Echo, Ready, Commit}
use Rattle.calls.specs.Machine.{Call, opening, delivery, report}
use Rattle.calls.specs.Engine.{engine, Agreed}
use Rattle.agreement_check.specs.Example.{Example, FromAny}
use Rattle.calls.specs.Given.{bytes_of}
use Rattle.agreement_example.specs.Messages.{input_five, opening_five, deliver, turn_of}

abbrev pub session : Agreed
session = record { version = 1; settings = record { n = 4; ta = 1; ts = 1; whole = 4; weights = 15 }; number = 7; coins = 0 ∷ 0 ∷ 0 ∷ 0 ∷ []; boxed = 0 }

abbrev pub first_three : ℕ → Bool
first_three p = leb p 3

-- a turn of each honest one
unfoldable pub turns : List (Call engine) → List (Call engine)
turns cs = turn_of 3 ∷ turn_of 2 ∷ turn_of 1 ∷ cs

-- the message m of p, with the set xs in a COMMIT, delivered to each honest one
unfoldable pub to_all : ℕ → Message → List ℕ → List (Call engine) → List (Call engine)
to_all p m xs cs = deliver 3 p m xs ∷ deliver 2 p m xs ∷ deliver 1 p m xs ∷ cs

-- the same message of each honest one
unfoldable pub from_all : Message → List ℕ → List (Call engine) → List (Call engine)
from_all m xs cs = to_all 3 m xs (to_all 2 m xs (to_all 1 m xs cs))

-- 3 leaves ta unnamed, which means 1 too
unfoldable pub openings : List (Call engine)
openings = opening 3 (opening_five 4 UNNAMED 1 3) ∷ opening 2 (opening_five 4 1 1 2) ∷ opening 1 (opening_five 4 1 1 1) ∷ []

-- the SENDs; the liar sends 5 to 1, 6 to 2, and to 3 a SEND in the name of 1, which is refused (5 SENDER)
unfoldable pub until_sends : List (Call engine)
until_sends =
    delivery 3 4 (bytes_of (encode (Send 1 6) 1 1 7 []))
    ∷ deliver 2 4 (Send 4 6) []
    ∷ deliver 1 4 (Send 4 5) []
    ∷ to_all 3 (Send 3 5) [] (to_all 2 (Send 2 5) [] (to_all 1 (Send 1 5) [] (turns openings)))

-- the ECHOs of the honest instances, and those of 1 and 2 in instance 4; the fourth turn of 3 is idle
unfoldable pub honest_echoes : List (Call engine)
honest_echoes =
    to_all 2 (Echo 4 6) [] (to_all 1 (Echo 4 5) []
    (from_all (Echo 3 5) [] (from_all (Echo 2 5) [] (from_all (Echo 1 5) []
    (turns (turns (turns (turns until_sends))))))))

-- the liar echoes 6 in instance 1, and then 5 to 2, which is refused (11 HELD)
unfoldable pub until_echoes : List (Call engine)
until_echoes = deliver 2 4 (Echo 1 5) [] ∷ to_all 4 (Echo 1 6) [] honest_echoes

unfoldable pub until_readies : List (Call engine)
until_readies =
    to_all 4 (Ready 1 6) []
    (from_all (Ready 3 5) [] (from_all (Ready 2 5) [] (from_all (Ready 1 5) []
    (turns (turns (turns until_echoes))))))

-- the COMMITs, that of the liar with the set {6}; then all are in force, and a further turn is refused (10 CLOSED)
unfoldable pub four_calls : List (Call engine)
four_calls =
    report 1 (blank 16, blank 16)
    ∷ turn_of 1
    ∷ turns (from_all (Commit 1) (5 ∷ []) (to_all 4 (Commit 1) (6 ∷ []) (turns until_readies)))

abbrev pub FourMeet : Type 0
FourMeet = FromAny session first_three (λ start. Example start session first_three input_five four_calls 1 (5 ∷ []))
