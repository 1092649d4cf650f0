-- The calls of specs/LowTa.antt in a session whose openings leave ta unnamed (255): n = 3, weights of 2, ts = 2. Then ta is the largest that is
-- allowed, which here is neither 0 nor ts: 2·ts + ta < 6, so ta = 1. The liar weighs 2, more than ta, but not more than ts.
use Rattle.std.specs.Prelude.{ℕ, ◌+◌, ◌*◌, ◌^◌, List, [], ◌∷◌}
use Rattle.settings.specs.Settings.{UNNAMED}
use Rattle.calls.specs.Machine.{Call, opening}
use Rattle.calls.specs.Engine.{engine, Agreed}
use Rattle.agreement_check.specs.Example.{FromAny}
use Rattle.agreement_example.specs.Messages.{opening_with}
use Rattle.agreement_example.specs.Weighted.{first_two}
use Rattle.agreement_example.specs.LowTa.{closing, OverTa}

-- the weights as one word: each has two marks
abbrev pub session : Agreed
session = record { version = 1; settings = record { n = 3; ta = 1; ts = 2; whole = 6; weights = 7 * 2 ^ 16 + 7 }; number = 7; coins = 0 ∷ 0 ∷ 0 ∷ []; boxed = 0 }

unfoldable pub openings : List (Call engine)
openings = opens 2 ∷ opens 1 ∷ []
  where
    opens : ℕ → Call engine
    opens p = opening p (opening_with 3 UNNAMED 2 (0 ∷ 0 ∷ 0 ∷ []) (2 ∷ 2 ∷ 2 ∷ []) 0 p 5)

unfoldable pub unnamed_calls : List (Call engine)
unnamed_calls = closing openings

abbrev pub UnnamedMeet : Type 0
UnnamedMeet = FromAny session first_two (λ start. OverTa start session unnamed_calls)
