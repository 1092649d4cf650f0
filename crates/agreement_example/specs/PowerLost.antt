-- One concentrator of weight 1, as in specs/One.antt, that loses power twice and is restored, onto whatever words its buffer then holds.
--   First its SEND was sent, but nobody got it: the journal's first line is enough, and the SEND is sent again.
--   Then the SEND was delivered to itself, so its line must stand. The lines of that delivery and of the ECHO are lost: the ECHO reached nobody,
--   the SEND is delivered once more.
use Rattle.std.specs.Prelude.{ℕ, List, [], ◌∷◌, ◌++◌, ◌≡◌, length}
use Rattle.records.specs.Layout.{state_words}
use Rattle.records.specs.Words.{blank}
use Rattle.opening.specs.Arguments.{arguments}
use Rattle.wire.specs.declared.Message.TheVariants.{Send, Echo, Ready, Commit}
use Rattle.journal.specs.Lines.{LETTER_D, LETTER_T, opening_line, turn_line}
use Rattle.calls.specs.Machine.{Call, opening, report, restore}
use Rattle.calls.specs.Engine.{engine, RestoreLent}
use Rattle.agreement_check.specs.Example.{Example, FromAny}
use Rattle.agreement_example.specs.Messages.{input_five, opening_five, deliver, turn_of}
use Rattle.agreement_example.specs.One.{session, everyone}

-- the line of the opening
abbrev pub first_line : List ℕ
first_line = opening_line (arguments 1 1 0 0 1 7 5 (0 ∷ []) (1 ∷ []) 0)

-- a restore from these bytes, lent 140 bytes for a message
unfoldable pub from : List ℕ → RestoreLent
from journal = record { journal = journal; message = blank 140 }

-- up to the first restore, which finds the words v; the cut falls behind the letter of the lost line
unfoldable pub once_restored : List ℕ → List (Call engine)
once_restored v = restore 1 v (from (first_line ++ (LETTER_T ∷ []))) ∷ turn_of 1 ∷ opening 1 (opening_five 1 0 0 1) ∷ []

-- up to the second, which finds the words w; two lines are complete
unfoldable pub twice_restored : (v w : List ℕ) → List (Call engine)
twice_restored v w =
    restore 1 w (from (first_line ++ (turn_line ++ (LETTER_D ∷ []))))
    ∷ turn_of 1
    ∷ deliver 1 1 (Send 1 5) []
    ∷ turn_of 1
    ∷ once_restored v

unfoldable pub lost_calls : (v w : List ℕ) → List (Call engine)
lost_calls v w =
    report 1 (blank 16, blank 16)
    ∷ turn_of 1
    ∷ deliver 1 1 (Commit 1) (5 ∷ [])
    ∷ turn_of 1
    ∷ deliver 1 1 (Ready 1 5) []
    ∷ turn_of 1
    ∷ deliver 1 1 (Echo 1 5) []
    ∷ turn_of 1
    ∷ deliver 1 1 (Send 1 5) []
    ∷ twice_restored v w

abbrev pub LostMeets : Type 0
LostMeets =
    FromAny session everyone (λ start. (v w : List ℕ) → length v ≡ state_words → length w ≡ state_words →
    Example start session everyone input_five (lost_calls v w) 1 (5 ∷ []))
