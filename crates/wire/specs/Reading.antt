-- What reading a message answers: the refusals 2 to 7 in their order, or the message (PROTOCOL 2.16).
use Rattle.std.specs.Prelude.{ℕ, ◌+◌, ◌*◌, Bool, false, cond, not, ◌&&◌, List, length, get_or, drop, leb, eqb, Result, Ok, Err}
use Rattle.wire.specs.Bytes.{be2, be4, value_at, values, rises}
use Rattle.settings.specs.Settings.{round_limit}
use Rattle.settings.specs.declared.refusal.Refusal.TheVariants as refusal
use Rattle.wire.specs.Message.{SEND, last_kind, by_kind}
use Rattle.wire.specs.declared.Message.{Message}
use Rattle.wire.specs.declared.Message.TheVariants.{Send, Echo, Ready, Est, Aux, Commit, Finish}
use Rattle.wire.specs.declared.Header.{Header}
use Rattle.settings.specs.declared.refusal.Refusal.{Refusal}

-- lo ≤ x ≤ hi
abbrev pub within : ℕ → ℕ → ℕ → Bool
within lo hi x = leb lo x && leb x hi

-- at least 12 bytes, and as many as byte 5 says, whatever the kind (PROTOCOL 2.16)
unfoldable pub length_right : List ℕ → Bool
length_right b = leb 12 (length b) && eqb (length b) (12 + 8 * get_or b 5 0)

-- bytes 0 to 11
unfoldable pub header_of : List ℕ → Header
header_of b = record {
  version = get_or b 0 0;
  kind = get_or b 1 0;
  sender = get_or b 2 0;
  instance = get_or b 3 0;
  round = get_or b 4 0;
  count = get_or b 5 0;
  reserved = be2 b 6;
  session = be4 b 8;
}

-- the version is the session's own and the kind one of that version (PROTOCOL 2.16)
abbrev pub kind_known : ℕ → ℕ → ℕ → Bool
kind_known own version kind = eqb version own && within SEND (last_kind own) kind

-- the sender is the link's number, and that is 1 to n (PROTOCOL 2.16)
abbrev pub sender_right : ℕ → ℕ → ℕ → Bool
sender_right n link sender = eqb sender link && within 1 n link

-- the instance is 1 to n, the round 0 and the count 1 (PROTOCOL 2.1 to 2.3, 2.20)
abbrev pub broadcast_fields : ℕ → Header → Bool
broadcast_fields n h = within 1 n h.instance && eqb h.round 0 && eqb h.count 1

-- of an EST or AUX: the instance is 1 to n, the round 1 to 32 and the count 1 (PROTOCOL 2.4, 2.5)
abbrev pub vote_fields : ℕ → Header → Bool
vote_fields n h = within 1 n h.instance && within 1 round_limit h.round && eqb h.count 1

-- of a COMMIT: instance and round are 0, and it has 1 to n values (PROTOCOL 2.6)
abbrev pub commit_fields : ℕ → Header → Bool
commit_fields n h = eqb h.instance 0 && eqb h.round 0 && within 1 n h.count

-- bytes 3 to 7 keep to the layout, by kind; 6 and 7 are 0, and a SEND's instance is its sender (PROTOCOL 2.1 to 2.6, 2.11, 2.20)
unfoldable pub fields_right : ℕ → Header → Bool
fields_right n h =
    cond (eqb h.reserved 0)
    (by_kind h.kind
    (broadcast_fields n h && eqb h.instance h.sender)
    (broadcast_fields n h)
    (broadcast_fields n h)
    (vote_fields n h)
    (vote_fields n h)
    (commit_fields n h)
    (broadcast_fields n h))
    false

-- the message m, if its values are right
unfoldable pub taken_if : Bool → Message → Result Message Refusal
taken_if right m = cond (not right) (Err refusal.Value) (Ok m)

-- the message with the header h and the values in v, by kind: an EST, AUX or FINISH has 0 or 1, a COMMIT values that rise (PROTOCOL 2.4 to 2.6, 2.20)
unfoldable pub read_values : Header → List ℕ → Result Message Refusal
read_values h v =
    by_kind h.kind
    (Ok (Send h.instance (value_at v 1)))
    (Ok (Echo h.instance (value_at v 1)))
    (Ok (Ready h.instance (value_at v 1)))
    (taken_if (leb (value_at v 1) 1) (Est h.instance h.round (value_at v 1)))
    (taken_if (leb (value_at v 1) 1) (Aux h.instance h.round (value_at v 1)))
    (taken_if (rises (values h.count v)) (Commit h.count))
    (taken_if (leb (value_at v 1) 1) (Finish h.instance (value_at v 1)))

-- the refusals 3 to 7 in their order, or the message
unfoldable pub read_checked : (version n session link : ℕ) → Header → List ℕ → Result Message Refusal
read_checked version n session link h v =
    cond (not (kind_known version h.version h.kind)) (Err refusal.Kind)
    (cond (not (eqb h.session session)) (Err refusal.Session)
    (cond (not (sender_right n link h.sender)) (Err refusal.Sender)
    (cond (not (fields_right n h)) (Err refusal.Field)
    (read_values h v))))

-- what the bytes b from the link of concentrator link are at one of n in a session of that version: the refusals 2 to 7 in their order, or
-- the message
unfoldable pub read_message : (version n session link : ℕ) → List ℕ → Result Message Refusal
read_message version n session link b = cond (not (length_right b)) (Err refusal.Length) (read_checked version n session link (header_of b) (drop 12 b))
