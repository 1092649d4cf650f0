-- The session of specs/Weighted.antt with boxed coins: the openings give coin words of 0, and both honest ones record the bits that the box
-- tells, which are those that were printed there. Until then their votes wait: in votes 1 and 3 a turn of each is idle, in vote 2 another.
use Rattle.std.specs.Prelude.{ℕ, ◌+◌, ◌^◌, List, [], ◌∷◌, ◌≡◌, Ok}
use Rattle.wire.specs.declared.Message.TheVariants.{Est}
use Rattle.turn.specs.declared.Outcome.TheVariants.{Idle, Sent}
use Rattle.journal.specs.Journal.{LINE_BYTES, turned_outcome}
use Rattle.calls.specs.Machine.{Call, opening}
use Rattle.calls.specs.Engine.{engine, Agreed}
use Rattle.agreement_check.specs.Checking.{words_of, run}
use Rattle.agreement_check.specs.Example.{Example, FromAny}
use Rattle.agreement_example.specs.Messages.{input_five, opening_with, record_of}
use Rattle.agreement_example.specs.Weighted.{first_two, turns, with_auxes, with_last_auxes, with_sets}

abbrev pub session : Agreed
session = record { version = 1; settings = record { n = 3; ta = 1; ts = 1; whole = 6; weights = 2 ^ 48 + 2 ^ 32 + 2 ^ 16 + 7 }; number = 7; coins = 0 ∷ 0 ∷ 0 ∷ []; boxed = 1 }

unfoldable pub openings : List (Call engine)
openings = opens 2 ∷ opens 1 ∷ []
  where
    opens : ℕ → Call engine
    opens p = opening p (opening_with 3 1 1 (0 ∷ 0 ∷ 0 ∷ []) (4 ∷ 1 ∷ 1 ∷ []) 1 p 5)

-- the bit b of round 1 of vote i, recorded at both
unfoldable pub recorded : (i b : ℕ) → List (Call engine) → List (Call engine)
recorded i b cs = record_of 2 i 1 b ∷ record_of 1 i 1 b ∷ cs

-- votes 1 and 3 wait for their coins: these turns are idle
unfoldable pub waiting : List (Call engine)
waiting = turns (with_auxes openings)

-- they get them; 1 is given the bit of vote 1 once more, and then the other bit, which is refused (16 COIN)
unfoldable pub told : List (Call engine)
told = record_of 1 1 1 0 ∷ record_of 1 1 1 1 ∷ recorded 3 1 (recorded 1 1 waiting)

-- vote 2 waits for its coin, too
unfoldable pub boxed_calls : List (Call engine)
boxed_calls = with_sets (recorded 2 0 (turns (with_last_auxes told)))

abbrev pub BoxedMeet : Type 0
BoxedMeet = FromAny session first_two (λ start. Example start session first_two input_five boxed_calls 2 (5 ∷ []))

-- the words of 1 after some calls
abbrev pub at_first : List (Call engine) → List ℕ
at_first cs = words_of (run session first_two input_five cs).states 1

-- a turn of 1 before it has the bit, however often it is taken, and after
pub record Waits : Type 0 where
  pub before : turned_outcome (at_first (with_auxes openings)) 140 LINE_BYTES ≡ Ok Idle
  pub again : turned_outcome (at_first waiting) 140 LINE_BYTES ≡ Ok Idle
  pub after : turned_outcome (at_first told) 140 LINE_BYTES ≡ Ok (Sent (Est 1 2 1))
