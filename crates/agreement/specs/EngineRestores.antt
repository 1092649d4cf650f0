-- For the author of a firmware: after every list of calls that meets the conditions, an opened honest one's journal, cut at any byte behind its
-- first line, is taken, whatever the 2,048 words of the buffer are, and gives back the state after its last complete line and the message of
-- that line (PROTOCOL 16.12).
use Rattle.std.specs.Prelude.{ℕ, ◌≤◌, Bool, List, [], ◌∷◌, ◌≡◌, length, take, Option, Some, None, Ok}
use Rattle.records.specs.Layout.{state_words}
use Rattle.turn.specs.Turn.{sent_length, turn_bytes}
use Rattle.journal.specs.Journal.{turned_outcome}
use Rattle.restore.specs.Restoring.{MESSAGE_BYTES, restore_answer, restored_words, restored_bytes}
use Rattle.calls.specs.Machine.{Machine, Call, opening, delivery, turn, report, restore, recording, words}
use Rattle.agreement.specs.Journals.{Moment, Journal, bytes, complete, journal}
use Rattle.agreement.specs.DemandThree.{Opened, Conditions}
use Rattle.calls.specs.Engine.{engine, Agreed, Bytes, TurnLent, SendsBytes}

module _ (M : Machine) (start : ℕ → M.Words) where
  -- the last call of a moment, where it is a turn: the words before it, and what it was lent
  abbrev pub last_turn : Moment M → Option (M.Words × M.Lent)
  last_turn [] = None
  last_turn (opening p o ∷ cs) = None
  last_turn (delivery p m b ∷ cs) = None
  last_turn (turn p l ∷ cs) = Some (words M start cs p, l)
  last_turn (report p r ∷ cs) = None
  last_turn (restore p v r ∷ cs) = None
  last_turn (recording p x ∷ cs) = None

-- a turn as the last call: the words before it
abbrev pub Last : Type 0
Last = Option (List ℕ × TurnLent)

-- of a line's turn, if it is one: the length of the message that it sent, 0 for none, ..
abbrev pub sent_again : Last → ℕ
sent_again None = 0
sent_again (Some (w, l)) = sent_length (turned_outcome w (length l.message) l.line)

-- .. the lent bytes with this message, ..
abbrev pub message_again : Last → List ℕ → List ℕ
message_again None lent = lent
message_again (Some (w, l)) lent = turn_bytes w lent

-- .. and that it sent b
abbrev pub SentLast : Last → Bytes → Type 0
SentLast None b = ⊥
SentLast (Some (w, l)) b = SendsBytes w l b

-- a restore of `text` onto v, lent `lent` for a message, gives the state of p at d, the moment of a line, and the message of that line; `lines`
-- are the bytes of the complete lines
pub record Gives (start : ℕ → List ℕ) (p : ℕ) (d : Moment engine) (lines text v lent : List ℕ) : Type 0 where
  pub answer : restore_answer v text (length lent) ≡ Ok (record { message = sent_again (last_turn engine start d); bytes = length lines })
  pub words : restored_words v text (length lent) ≡ words engine start d p
  pub message : restored_bytes (length v) text lent ≡ message_again (last_turn engine start d) lent
  -- its bytes are those that were sent
  pub sent : (b : Bytes) → SentLast (last_turn engine start d) b → b.list ≡ take (sent_again (last_turn engine start d)) (message_again (last_turn engine start d) lent)

-- d is the moment of the last complete line, ks are those before it
unfoldable pub RestoreGives : Type 0
RestoreGives =
    (S : Agreed) (H : ℕ → Bool) (start : ℕ → List ℕ) (cs : List (Call engine)) → Conditions engine start S H cs →
    (p : ℕ) → Opened engine start cs p →
    (text : List ℕ) → text ≡ take (length text) (bytes engine (journal engine start cs p)) →
    (d : Moment engine) (ks : Journal engine) → complete engine (length text) (journal engine start cs p) ≡ d ∷ ks →
    (v lent : List ℕ) → length v ≡ state_words → MESSAGE_BYTES ≤ length lent →
    Gives start p d (bytes engine (d ∷ ks)) text v lent
