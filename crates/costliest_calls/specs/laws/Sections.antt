-- The calls of the costliest session by sections, as the code reads them. The place of a call in its section counts from 0.
use Rattle.std.specs.Prelude.{ℕ, ◌+◌, ◌*◌, ◌-◌, ◌/◌, ◌%◌, ◌≤◌, cond, eqb, ltb, Option, Some, None}
use Rattle.settings.specs.Versions.{FIRST_VERSION}
use Rattle.records.specs.Words.{blank}
use Rattle.wire.specs.Message.{instance_of, round_of, count_of, encode}
use Rattle.wire.specs.declared.Message.TheVariants.{Send, Echo, Ready, Est, Aux, Commit}
use Rattle.calls.specs.Machine.{delivery, turn}
use Rattle.calls.specs.Engine.{engine}
use Rattle.calls.specs.Given.{bytes_of, turn_with}
use Rattle.calls.specs.Machine as machine
use Rattle.costliest.specs.Calls.{packs}
use Rattle.costliest_calls.specs.declared.Call.{Call}
use Rattle.costliest_calls.specs.declared.Call.TheVariants.{Delivery, Turn}

-- as many concentrators as a session may have
pub record Few (n : ℕ) : Type 0 where
  pub some : 1 ≤ n
  pub most : n ≤ 16

-- the call that the code means: a message is of session 7, a COMMIT holds the first packs, and a turn is lent 140 bytes
unfoldable pub engine_call : Call → machine.Call engine
engine_call (Delivery p m) = delivery 1 p (bytes_of (encode m FIRST_VERSION p 7 packs))
engine_call Turn = turn 1 (turn_with (blank 140))

-- the link, and the fields of the message, of a call are small
unfoldable pub Small : Call → Type 0
Small (Delivery p m) = (p ≤ 32) × (instance_of m ≤ 32) × (round_of m ≤ 32) × (count_of m ≤ 16)
Small Turn = Unit {0}

-- the calls of a section of m, and then those after it
unfoldable pub joined : ℕ → (ℕ → Option Call) → (ℕ → Option Call) → ℕ → Option Call
joined m g h j = cond (ltb j m) (g j) (h (j - m))

abbrev pub no_call : ℕ → Option Call
no_call j = None

abbrev pub turn_call : ℕ → Option Call
turn_call j = Some Turn

-- a SEND of each
abbrev pub send_call : ℕ → Option Call
send_call j = Some (Delivery (j + 1) (Send (j + 1) (j + 1)))

-- in each instance a READY from each of n
abbrev pub ready_call : ℕ → ℕ → Option Call
ready_call n j = Some (Delivery (j % n + 1) (Ready (j / n + 1) (j / n + 1)))

-- in each instance and each of 32 rounds the EST of 0 and of 1
abbrev pub est_call : ℕ → Option Call
est_call j = Some (Delivery 1 (Est (j / 64 + 1) (j % 64 / 2 + 1) (j % 64 % 2)))

-- in each instance and each of 32 rounds an AUX from each of n
abbrev pub aux_call : ℕ → ℕ → Option Call
aux_call n j = Some (Delivery (j % (32 * n) % n + 1) (Aux (j / (32 * n) + 1) (j % (32 * n) / n + 1) 0))

-- the COMMIT of concentrator 1
abbrev pub first_commit : ℕ → ℕ → Option Call
first_commit n j = Some (Delivery 1 (Commit n))

-- the COMMITs of the others
abbrev pub commit_call : ℕ → ℕ → Option Call
commit_call n j = Some (Delivery (j + 2) (Commit n))

-- from the first COMMIT on
unfoldable pub later_call : ℕ → ℕ → Option Call
later_call n = joined 1 (first_commit n) (joined (99 * n + 2) turn_call (joined (n - 1) (commit_call n) (joined 1 turn_call no_call)))

-- the calls of two or more
unfoldable pub call_of_many : ℕ → ℕ → Option Call
call_of_many n = joined n send_call (joined (n * n) (ready_call n) (joined (64 * n) est_call (joined (32 * (n * n)) (aux_call n) (later_call n))))

-- the calls of one alone, k from 1: five turns, and a delivery between any two
unfoldable pub call_of_one : ℕ → Option Call
call_of_one k =
    cond (eqb k 2) (Some (Delivery 1 (Send 1 5)))
    (cond (eqb k 4) (Some (Delivery 1 (Echo 1 5)))
    (cond (eqb k 6) (Some (Delivery 1 (Ready 1 5)))
    (cond (eqb k 8) (Some (Delivery 1 (Commit 1)))
    (cond (ltb k 10) (Some Turn) None))))

-- call k of n, k from 1
unfoldable pub call_of : ℕ → ℕ → Option Call
call_of n k = cond (eqb k 0) None (cond (eqb n 1) (call_of_one k) (call_of_many n (k - 1)))
