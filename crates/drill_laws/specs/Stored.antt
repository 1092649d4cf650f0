-- What a turn sends is stored at the next place, and the places before it stay.
use Rattle.std.specs.Prelude.{ℕ, ◌+◌, ◌≤◌, List, ◌≡◌, length}
use Rattle.records.specs.Records.{version}
use Rattle.session.specs.Session.{settings_of, session_of}
use Rattle.wire.specs.Message.{encode}
use Rattle.wire.specs.declared.Message.{Message}
use Rattle.turn.specs.Due.{commit_due}
use Rattle.turn.specs.Turn.{turn_outcome, turn_bytes}
use Rattle.drill_feeder.specs.Parts.{part, place_at, state_of, room_for, with_room, message_at}
use Rattle.drill_feeder.specs.Lines.{message_counted}
use Rattle.drill_feeder.specs.declared.Counts.{Counts}

-- messages are numbered from 1 as they are sent (PROTOCOL 15.12): a turn of p that would send message k has room, is counted, its bytes stand
-- at the next place, and the places before it stay
pub record Stored (w m : List ℕ) (c : Counts) (p : ℕ) (k : Message) : Type 0 where
  pub room : length (room_for m c.sent) ≡ 140
  pub counts : (message_counted (turn_outcome (state_of w p) (length (room_for m c.sent))) c).sent ≡ c.sent + 1
  pub bytes :
      message_at (with_room m c.sent (turn_bytes (state_of w p) (room_for m c.sent))) (c.sent + 1)
      ≡ encode k (version (state_of w p)) (session_of (state_of w p)).own (session_of (state_of w p)).number (commit_due (settings_of (state_of w p)) (state_of w p))
  pub places :
      (j : ℕ) → 1 ≤ j → j ≤ c.sent → part (with_room m c.sent (turn_bytes (state_of w p) (room_for m c.sent))) (place_at j) 44 ≡ part m (place_at j) 44
