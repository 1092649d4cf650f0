-- A turn of the engine with its line, as a turn without one: it has no bytes for a message where it is lent too few for its line.
use Rattle.std.specs.Prelude.{ℕ, ◌≤◌, Bool, true, false, cond, List, [], ◌≡◌, refl, ltb, length, take, Ok}
use Rattle.std.proofs.Common.{sym, ap, ◌∙◌, le-ltb}
use Rattle.wire.specs.Message.{length_of}
use Rattle.wire.specs.declared.Message as wire
use Rattle.turn.specs.Turn.{turn_outcome, turn_bytes}
use Rattle.turn.specs.declared.Outcome.TheVariants as outcome
use Rattle.journal.specs.Journal.{LINE_BYTES, turn_room, acts}
use Rattle.journal.specs.laws.Journal.{turn_enough, message_kept}
use Rattle.calls.specs.Engine.{Bytes, TurnLent, SendsBytes}

unfoldable pub for_message : TurnLent → List ℕ
for_message l = cond (ltb l.line LINE_BYTES) [] l.message

pub room_same : (l : TurnLent) → turn_room (length l.message) l.line ≡ length (for_message l)
unfolding turn_room for_message
room_same l = at (ltb l.line LINE_BYTES)
  where
    at : (b : Bool) → cond b 0 (length l.message) ≡ length (cond b [] l.message)
    at true = refl
    at false = refl

-- a turn lent the bytes `lent`, with no line, answers that a message is sent, and b are its bytes
pub record SendsPlain (w lent : List ℕ) (b : Bytes) : Type 0 where
  pub message : wire.Message
  pub outcome : turn_outcome w (length lent) ≡ Ok (outcome.Sent message)
  pub bytes : b.list ≡ take (length_of message) (turn_bytes w lent)

pub sends_plain : (w : List ℕ) (l : TurnLent) (b : Bytes) → SendsBytes w l b → SendsPlain w (for_message l) b
unfolding for_message
sends_plain w l b h =
    let enough : LINE_BYTES ≤ l.line = (turn_enough w (length l.message) l.line (ap acts h.outcome)).1 in
    let same : for_message l ≡ l.message = rw (le-ltb l.line LINE_BYTES enough) in
    record {
      message = h.message;
      outcome = ap (turn_outcome w) (sym (room_same l)) ∙ h.outcome;
      bytes = h.bytes ∙ ap (take (length_of h.message)) (message_kept w l.message l.line enough ∙ ap (turn_bytes w) (sym same));
    }
