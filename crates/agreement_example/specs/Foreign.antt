-- The calls of specs/Weighted.antt, after calls at concentrator 1 that count for nothing, since its opening under its own number comes later: it
-- is opened as 4, in another session, and then as 2, in this session, with another input. As 2 it sends a SEND and takes it from the link of 2,
-- which is honest and did not send it.
use Rattle.std.specs.Prelude.{ℕ, true, List, [], ◌∷◌, ◌++◌, ◌≡◌}
use Rattle.wire.specs.Message.{encode}
use Rattle.wire.specs.declared.Message.TheVariants.{Send}
use Rattle.agreement.specs.Moments.{Within}
use Rattle.calls.specs.Machine.{Call, opening, delivery, words}
use Rattle.agreement.specs.DemandThree.{Sent}
use Rattle.calls.specs.Engine.{engine, OpeningGiven, Bytes}
use Rattle.agreement_check.specs.Example.{Example, FromAny}
use Rattle.calls.specs.Given.{bytes_of}
use Rattle.agreement_example.specs.Messages.{input_five, opening_with, opening_five, turn_of}
use Rattle.agreement_example.specs.Weighted.{session, first_two, weighted_calls}

abbrev pub as_fourth : OpeningGiven
as_fourth = opening_five 4 1 1 4

abbrev pub as_second : OpeningGiven
as_second = opening_with 3 1 1 (1 ∷ 0 ∷ 1 ∷ []) (4 ∷ 1 ∷ 1 ∷ []) 0 2 6

abbrev pub unsent : Bytes
unsent = bytes_of (encode (Send 2 6) 1 2 7 [])

-- The last call stands first.

unfoldable pub foreign : List (Call engine)
foreign = delivery 1 2 unsent ∷ turn_of 1 ∷ opening 1 as_second ∷ opening 1 as_fourth ∷ []

unfoldable pub foreign_calls : List (Call engine)
foreign_calls = weighted_calls ++ foreign

-- an opening of p, under the number m, is accepted
pub record OpenedAs (start : ℕ → List ℕ) (cs : List (Call engine)) (p m : ℕ) : Type 0 where
  pub given : OpeningGiven
  pub past : List (Call engine)
  pub within : Within (opening p given ∷ past) cs
  pub numbered : engine.own given ≡ m
  pub accepted : engine.opens (words engine start past p) given ≡ true

-- p accepts a message from the link of m that m did not send
pub record Uncredited (start : ℕ → List ℕ) (cs : List (Call engine)) (p m : ℕ) : Type 0 where
  pub bytes : Bytes
  pub past : List (Call engine)
  pub within : Within (delivery p m bytes ∷ past) cs
  pub accepted : engine.accepts (words engine start past p) m bytes ≡ true
  pub not_sent : Sent engine start past m bytes → ⊥

-- the conditions allow such openings only before the own one
pub record ForeignFirst (start : ℕ → List ℕ) : Type 0 where
  pub example : Example start session first_two input_five foreign_calls 2 (5 ∷ [])
  pub as_fourth_lem : OpenedAs start foreign_calls 1 4
  pub as_second_lem : OpenedAs start foreign_calls 1 2
  pub uncredited : Uncredited start foreign_calls 1 2

abbrev pub ForeignMeet : Type 0
ForeignMeet = FromAny session first_two ForeignFirst
