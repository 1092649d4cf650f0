-- A call as one number of 64 bits and the bytes of its message. Bits 0 to 7 are the number of the refusal, 0 where there is none;
-- on a refusal the others are 0.
use Rattle.std.specs.Prelude.{ℕ, ◌+◌, ◌*◌, ◌^◌, cond, ◌&&◌, List, leb, ltb, length, Option, Some, None, Result, Ok, Err}
use Rattle.std.specs.Result.{is_ok}
use Rattle.settings.specs.declared.refusal.Refusal.{Refusal}
use Rattle.settings.specs.declared.refusal.Refusal.TheVariants as refusal
use Rattle.settings.specs.Refusals.{number_of}
use Rattle.wire.specs.Message.{at_front}
use Rattle.calls.specs.Machine.{Call, opening, delivery, turn, report, restore, recording}
use Rattle.calls.specs.Engine.{engine}
use Rattle.costliest.specs.Calls.{costliest_calls}
use Rattle.costliest_calls.specs.Numbered.{call_at}

-- bits 8 to 15: 0 no such call, 1 a delivery, 2 a turn; 16 to 31: the length of the message delivered, or of the bytes lent to the turn;
-- 32 to 39: the link of the delivery. An opening, a report, a restore and a recording have no number of their own.
unfoldable pub call_number : Option (Call engine) → ℕ
call_number None = 0
call_number (Some (opening p o)) = 0
call_number (Some (delivery p link b)) = 2 ^ 8 * 1 + 2 ^ 16 * length b.list + 2 ^ 32 * link
call_number (Some (turn p l)) = 2 ^ 8 * 2 + 2 ^ 16 * length l.message
call_number (Some (report p r)) = 0
call_number (Some (restore p v r)) = 0
call_number (Some (recording p b)) = 0

-- the lent bytes, with the message of a delivery at their front
unfoldable pub call_bytes : Option (Call engine) → List ℕ → List ℕ
call_bytes None lent = lent
call_bytes (Some (opening p o)) lent = lent
call_bytes (Some (delivery p link b)) lent = at_front b.list lent
call_bytes (Some (turn p l)) lent = lent
call_bytes (Some (report p r)) lent = lent
call_bytes (Some (restore p v r)) lent = lent
call_bytes (Some (recording p b)) lent = lent

-- SETTINGS where n is not 1 to 16, SHORT where fewer bytes are lent than the longest message has
unfoldable pub call_refusal : (n room : ℕ) → Result (Unit {0}) Refusal
call_refusal n room = cond (leb 1 n && leb n 16) (cond (ltb room 140) (Err refusal.Short) (Ok tt)) (Err refusal.Settings)

-- the number of the refusal, or else of the call
abbrev pub refused_or : Result (Unit {0}) Refusal → ℕ → ℕ
refused_or (Err k) x = number_of k
refused_or (Ok tt) x = x

-- the answer for call k of the costliest session of n
unfoldable pub costliest_answer : (n k room : ℕ) → ℕ
costliest_answer n k room = refused_or (call_refusal n room) (call_number (call_at (costliest_calls n) k))

-- the lent bytes after it; a refusal leaves them
unfoldable pub costliest_bytes : (n k : ℕ) → List ℕ → List ℕ
costliest_bytes n k lent = cond (is_ok (call_refusal n (length lent))) (call_bytes (call_at (costliest_calls n) k) lent) lent
