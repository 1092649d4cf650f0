-- Four concentrators of weight 1: n = 4, ta = ts = 1, session 7, coin words of 0. Concentrators 1, 2 and 3 are honest; 1 and 2 put in 5, and 3 is
-- never opened: no call is made there. 4 lies.
-- The liar sends what an honest one with the input 5 would send; so broadcasts 1, 2 and 4 have the output 5, which is Exit 1, and 1 and 2 close.
-- It also says that 3 sent 6.
use Rattle.std.specs.Prelude.{ℕ, ◌≤◌, List, [], ◌∷◌, ◌≢◌}
use Rattle.records.specs.Words.{blank}
use Rattle.wire.specs.declared.Message.{Message}
use Rattle.wire.specs.declared.Message.TheVariants.{Send, Echo, Ready, Commit}
use Rattle.agreement.specs.Honest.{Honest, liars}
use Rattle.agreement.specs.Moments.{Within}
use Rattle.calls.specs.Machine.{Call, opening, report, place}
use Rattle.calls.specs.Engine.{engine}
use Rattle.agreement_check.specs.Example.{Shown, Supposed, FromAny}
use Rattle.agreement_example.specs.Messages.{input_five, opening_five}
use Rattle.agreement_example.specs.Four.{session, first_three}
use Rattle.agreement_example.specs.Weighted.{turns, to_both, from_both}

-- The last call stands first; `cs` are the calls before.

unfoldable pub openings : List (Call engine)
openings = opening 2 (opening_five 4 1 1 2) ∷ opening 1 (opening_five 4 1 1 1) ∷ []

-- the same message of 1, 2 and 4
unfoldable pub from_three : Message → List ℕ → List (Call engine) → List (Call engine)
from_three m xs cs = to_both 4 m xs (from_both m xs cs)

-- three turns of 1 and 2, what they and the liar sent in the instances 1, 2 and 4, and what the liar says of 3; `m i v` is the message with v in
-- instance i
unfoldable pub in_each : (ℕ → ℕ → Message) → List (Call engine) → List (Call engine)
in_each m cs =
    to_both 4 (m 3 6) []
    (from_three (m 4 5) [] (from_three (m 2 5) [] (from_three (m 1 5) []
    (turns (turns (turns cs))))))

unfoldable pub until_sends : List (Call engine)
until_sends = to_both 4 (Send 4 5) [] (to_both 2 (Send 2 5) [] (to_both 1 (Send 1 5) [] (turns openings)))

unfoldable pub unopened_calls : List (Call engine)
unopened_calls = report 1 (blank 16, blank 16) ∷ turns (from_three (Commit 1) (5 ∷ []) (turns (in_each Ready (in_each Echo until_sends))))

pub record OneUnopened (start : ℕ → List ℕ) : Type 0 where
  pub few_ta : liars session.settings first_three ≤ session.settings.ta
  pub supposed : Supposed start session first_three input_five unopened_calls
  -- 3 is honest, and no call is made there ..
  pub honest : Honest session.settings first_three 3
  pub uncalled : (c : Call engine) (ds : List (Call engine)) → Within (c ∷ ds) unopened_calls → place engine c ≢ 3
  -- .. and 1 and 2 close
  pub first : Shown start unopened_calls 1 1 (5 ∷ [])
  pub second : Shown start unopened_calls 2 1 (5 ∷ [])

abbrev pub UnopenedMeet : Type 0
UnopenedMeet = FromAny session first_three OneUnopened
