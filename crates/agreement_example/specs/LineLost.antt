-- Who is restored without the line of a message that left counts as a liar: here the SEND was delivered, and the restore reads the line of the
-- opening alone. Whichever session and whichever honest ones are chosen, the list does not meet the conditions of agreement, so the calls of
-- this concentrator are in no list that does (PROTOCOL 11.18).
use Rattle.std.specs.Prelude.{ℕ, Bool, List, [], ◌∷◌, ◌≡◌, length}
use Rattle.records.specs.Layout.{state_words}
use Rattle.wire.specs.declared.Message.TheVariants.{Send}
use Rattle.calls.specs.Machine.{Call, opening, restore}
use Rattle.agreement.specs.DemandThree.{Conditions}
use Rattle.calls.specs.Engine.{engine, Agreed}
use Rattle.agreement_check.specs.Example.{FromAny}
use Rattle.agreement_example.specs.Messages.{opening_five, deliver, turn_of}
use Rattle.agreement_example.specs.One.{session, everyone}
use Rattle.agreement_example.specs.PowerLost.{first_line, from}

-- the SEND is sent
unfoldable pub until_sent : List (Call engine)
until_sent = turn_of 1 ∷ opening 1 (opening_five 1 0 0 1) ∷ []

-- .. and delivered
unfoldable pub until_got : List (Call engine)
until_got = deliver 1 1 (Send 1 5) [] ∷ until_sent

-- v are the words that the restore finds
abbrev pub LineMissed : Type 0
LineMissed =
    FromAny session everyone (λ start. (v : List ℕ) → length v ≡ state_words →
    (S : Agreed) (H : ℕ → Bool) → Conditions engine start S H (restore 1 v (from first_line) ∷ until_got) → ⊥)
