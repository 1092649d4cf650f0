-- Three concentrators of weight 1: n = 3, ta = 0, ts = 1, session 7, coin words of 0. Concentrator 1 is opened with ta = 0, 2 with 255, which is read
-- as 0. Both put in 5; 3 lies. So liars weigh more than ta, but not more than ts.
-- The liar tells 6 to 1 and 8 to 2, in its SEND, ECHO and READY, so that its broadcast has two outputs; liars of up to ta cannot bring that about.
-- Broadcasts 1 and 2 have the output 5, which is Exit 1 at both.
use Rattle.std.specs.Prelude.{ℕ, ◌<◌, List, [], ◌∷◌, ◌≡◌, Some}
use Rattle.records.specs.Words.{blank}
use Rattle.broadcasts.specs.Broadcasts.{output}
use Rattle.wire.specs.declared.Message.{Message}
use Rattle.wire.specs.declared.Message.TheVariants.{Send, Echo, Ready, Commit}
use Rattle.settings.specs.Settings.{UNNAMED}
use Rattle.agreement.specs.Honest.{Honest, liars}
use Rattle.calls.specs.Machine.{Call, opening, report, words}
use Rattle.calls.specs.Engine.{engine, Agreed}
use Rattle.agreement_check.specs.Example.{Shown, Supposed, FromAny}
use Rattle.agreement_example.specs.Messages.{input_five, opening_five, deliver}
use Rattle.agreement_example.specs.Weighted.{first_two, turns, to_both, from_both}

abbrev pub session : Agreed
session = record { version = 1; settings = record { n = 3; ta = 0; ts = 1; whole = 3; weights = 7 }; number = 7; coins = 0 ∷ 0 ∷ 0 ∷ []; boxed = 0 }

-- The last call stands first; `cs` are the calls before.

unfoldable pub openings : List (Call engine)
openings = opening 2 (opening_five 3 UNNAMED 1 2) ∷ opening 1 (opening_five 3 0 1 1) ∷ []

-- the liar sends m to 1 and k to 2
unfoldable pub equivocated : Message → Message → List (Call engine) → List (Call engine)
equivocated m k cs = deliver 2 3 k [] ∷ deliver 1 3 m [] ∷ cs

-- three turns of each honest one, and what they sent, in instance 3 what the liar told each; `m i v` is the message with v in instance i
unfoldable pub in_each : (ℕ → ℕ → Message) → List (Call engine) → List (Call engine)
in_each m cs =
    equivocated (m 3 6) (m 3 8)
    (to_both 2 (m 3 8) [] (to_both 1 (m 3 6) []
    (from_both (m 2 5) [] (from_both (m 1 5) []
    (turns (turns (turns cs)))))))

-- all that follows the openings; the COMMIT of the liar holds {6}
unfoldable pub closing : List (Call engine) → List (Call engine)
closing cs =
    report 1 (blank 16, blank 16)
    ∷ turns (from_both (Commit 1) (5 ∷ []) (to_both 3 (Commit 1) (6 ∷ []) (turns
    (in_each Ready (in_each Echo
    (equivocated (Send 3 6) (Send 3 8) (to_both 2 (Send 2 5) [] (to_both 1 (Send 1 5) [] (turns cs)))))))))

unfoldable pub low_ta_calls : List (Call engine)
low_ta_calls = closing openings

-- the list cs of the session S, in which 1 and 2 are honest and put in 5
pub record OverTa (start : ℕ → List ℕ) (S : Agreed) (cs : List (Call engine)) : Type 0 where
  pub over : S.settings.ta < liars S.settings first_two
  pub supposed : Supposed start S first_two input_five cs
  pub shown : (p : ℕ) → Honest S.settings first_two p → Shown start cs p 1 (5 ∷ [])
  -- the two outputs
  pub at_first : output S.settings (words engine start cs 1) 3 ≡ Some 6
  pub at_second : output S.settings (words engine start cs 2) 3 ≡ Some 8

abbrev pub LowTaMeet : Type 0
LowTaMeet = FromAny session first_two (λ start. OverTa start session low_ta_calls)
