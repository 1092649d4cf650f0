-- Opening, delivery, recording and turn with the line that each writes: one for each accepted opening, delivery and recording, and for each
-- turn that is neither idle nor refused (PROTOCOL 11.1).
use Rattle.std.specs.Prelude.{ℕ, Bool, true, false, cond, List, ltb, length, Result, Ok, Err}
use Rattle.settings.specs.declared.refusal.Refusal.TheVariants as refusal
use Rattle.opening.specs.Arguments.{Arguments}
use Rattle.opening.specs.Opening.{open_answer, opened}
use Rattle.delivery.specs.Delivery.{deliver_answer, delivered}
use Rattle.recording.specs.Recording.{record_answer, recorded_words}
use Rattle.wire.specs.Message.{at_front}
use Rattle.turn.specs.Turn.{turn_outcome, turn_words, turn_bytes}
use Rattle.turn.specs.declared.Outcome.{Outcome}
use Rattle.turn.specs.declared.Outcome.TheVariants as outcome
use Rattle.journal.specs.Lines.{opening_line, delivery_line, recording_line, turn_line}
use Rattle.settings.specs.declared.refusal.Refusal.{Refusal}
use Rattle.std.specs.Result.{is_ok}

-- the bytes that a line must be lent
abbrev pub LINE_BYTES : ℕ
LINE_BYTES = 512

-- the 512 bytes for the line are asked for after all else (PROTOCOL 10.14 to 10.17): what a call answers that answers so without its line
-- and is lent so many bytes for it
unfoldable pub line_answer : Result (Unit {0}) Refusal → ℕ → Result (Unit {0}) Refusal
line_answer (Ok tt) room = cond (ltb room LINE_BYTES) (Err refusal.Short) (Ok tt)
line_answer (Err k) room = Err k

-- the words after a call that leaves `after` where it is lent enough
unfoldable pub line_words : ℕ → (before after : List ℕ) → List ℕ
line_words room before after = cond (ltb room LINE_BYTES) before after

-- the bytes lent to a call: the line's own are written, where it is taken, and no others
unfoldable pub line_bytes : Result (Unit {0}) Refusal → (line lent : List ℕ) → List ℕ
line_bytes a line lent = cond (is_ok a) (at_front line lent) lent

-- what the call gives: the length of its line, or its refusal
unfoldable pub line_entry : Result (Unit {0}) Refusal → List ℕ → Result ℕ Refusal
line_entry (Ok tt) line = Ok (length line)
line_entry (Err k) line = Err k

-- Opening. Its answer with the line asked for, the words after it, the bytes lent for the line after it, what it gives.
unfoldable pub open_line_answer : (words : ℕ) → Arguments → (room : ℕ) → Result (Unit {0}) Refusal
open_line_answer words o room = line_answer (open_answer words o) room

unfoldable pub opened_words : List ℕ → Arguments → (room : ℕ) → List ℕ
opened_words s o room = line_words room s (opened s o)

unfoldable pub opened_bytes : (words : ℕ) → Arguments → (lent : List ℕ) → List ℕ
opened_bytes words o lent = line_bytes (open_line_answer words o (length lent)) (opening_line o) lent

unfoldable pub open_entry : (words : ℕ) → Arguments → (room : ℕ) → Result ℕ Refusal
open_entry words o room = line_entry (open_line_answer words o room) (opening_line o)

-- Delivery, likewise.
unfoldable pub deliver_line_answer : List ℕ → ℕ → List ℕ → ℕ → Result (Unit {0}) Refusal
deliver_line_answer s link b room = line_answer (deliver_answer s link b) room

unfoldable pub delivered_words : List ℕ → ℕ → List ℕ → ℕ → List ℕ
delivered_words s link b room = line_words room s (delivered s link b)

unfoldable pub delivered_bytes : List ℕ → ℕ → (b lent : List ℕ) → List ℕ
delivered_bytes s link b lent = line_bytes (deliver_line_answer s link b (length lent)) (delivery_line link b) lent

unfoldable pub deliver_entry : List ℕ → ℕ → List ℕ → ℕ → Result ℕ Refusal
deliver_entry s link b room = line_entry (deliver_line_answer s link b room) (delivery_line link b)

-- Recording, likewise.
unfoldable pub record_line_answer : List ℕ → (i r b room : ℕ) → Result (Unit {0}) Refusal
record_line_answer s i r b room = line_answer (record_answer s i r b) room

unfoldable pub record_words : List ℕ → (i r b room : ℕ) → List ℕ
record_words s i r b room = line_words room s (recorded_words s i r b)

unfoldable pub record_bytes : List ℕ → (i r b : ℕ) → List ℕ → List ℕ
record_bytes s i r b lent = line_bytes (record_line_answer s i r b (length lent)) (recording_line i r b) lent

unfoldable pub record_entry : List ℕ → (i r b room : ℕ) → Result ℕ Refusal
record_entry s i r b room = line_entry (record_line_answer s i r b room) (recording_line i r b)

-- Turn. It is refused by 8 for its message as for its line, both after 9 and 10: with too few bytes for the line it answers as with none for
-- the message. An idle turn asks for them, too.
unfoldable pub turn_room : (room line : ℕ) → ℕ
turn_room room line = cond (ltb line LINE_BYTES) 0 room

-- a turn that is neither idle nor refused acts (PROTOCOL 8.19)
abbrev pub acts : Result Outcome Refusal → Bool
acts (Err k) = false
acts (Ok outcome.Idle) = false
acts (Ok (outcome.Sent m)) = true
acts (Ok outcome.MovedOut) = true
acts (Ok outcome.InForce) = true

abbrev pub turned_outcome : List ℕ → (room line : ℕ) → Result Outcome Refusal
turned_outcome s room line = turn_outcome s (turn_room room line)

abbrev pub turned_words : List ℕ → (room line : ℕ) → List ℕ
turned_words s room line = turn_words s (turn_room room line)

-- the bytes lent for the message, and those lent for the line
unfoldable pub turned_message : List ℕ → List ℕ → ℕ → List ℕ
turned_message s out line = cond (ltb line LINE_BYTES) out (turn_bytes s out)

unfoldable pub turned_line : List ℕ → ℕ → List ℕ → List ℕ
turned_line s room lent = cond (acts (turned_outcome s room (length lent))) (at_front turn_line lent) lent
