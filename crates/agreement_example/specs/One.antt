-- One concentrator of weight 1: n = 1, ta = ts = 0, session 7, input 5, a coin word of 0. Nobody lies.
use Rattle.std.specs.Prelude.{ℕ, Bool, true, List, [], ◌∷◌}
use Rattle.records.specs.Words.{blank}
use Rattle.wire.specs.declared.Message.TheVariants.{Send, Echo, Ready, Commit}
use Rattle.calls.specs.Machine.{Call, opening, delivery, report}
use Rattle.calls.specs.Engine.{engine, Agreed}
use Rattle.agreement_check.specs.Example.{Example, FromAny}
use Rattle.calls.specs.Given.{bytes_of}
use Rattle.agreement_example.specs.Messages.{input_five, opening_five, deliver, turn_of}

abbrev pub session : Agreed
session = record { version = 1; settings = record { n = 1; ta = 0; ts = 0; whole = 1; weights = 1 }; number = 7; coins = 0 ∷ []; boxed = 0 }

abbrev pub everyone : ℕ → Bool
everyone p = true

-- The last call stands first. Three are refused: a delivery of three bytes before the opening, the SEND delivered a second time (11 HELD),
-- and an opening with n = 3, ta = ts = 1 (1 SETTINGS).
unfoldable pub one_calls : List (Call engine)
one_calls =
    report 1 (blank 16, blank 16)
    ∷ turn_of 1
    ∷ deliver 1 1 (Commit 1) (5 ∷ [])
    ∷ turn_of 1
    ∷ deliver 1 1 (Ready 1 5) []
    ∷ turn_of 1
    ∷ deliver 1 1 (Echo 1 5) []
    ∷ turn_of 1
    ∷ opening 1 (opening_five 3 1 1 1)
    ∷ deliver 1 1 (Send 1 5) []
    ∷ deliver 1 1 (Send 1 5) []
    ∷ turn_of 1
    ∷ opening 1 (opening_five 1 0 0 1)
    ∷ delivery 1 1 (bytes_of (1 ∷ 1 ∷ 1 ∷ []))
    ∷ []

abbrev pub OneMeets : Type 0
OneMeets = FromAny session everyone (λ start. Example start session everyone input_five one_calls 1 (5 ∷ []))
