-- The layout of a message, and the bytes of one that is written: PROTOCOL, section 2.
use Rattle.std.specs.Prelude.{ℕ, ◌+◌, ◌*◌, cond, List, [], ◌∷◌, ◌++◌, length, take, drop, eqb}
use Rattle.settings.specs.Versions.{finishing}
use Rattle.wire.specs.Bytes.{bytes2, bytes4, value_bytes}
use Rattle.wire.specs.declared.Message.{Message}
use Rattle.wire.specs.declared.Message.TheVariants.{Send, Echo, Ready, Est, Aux, Commit, Finish}
use Rattle.wire.specs.declared.Header.{Header}

-- byte 1, the kind (PROTOCOL 2.1 to 2.6, 2.20)
abbrev pub SEND : ℕ
SEND = 1

abbrev pub ECHO : ℕ
ECHO = 2

abbrev pub READY : ℕ
READY = 3

abbrev pub EST : ℕ
EST = 4

abbrev pub AUX : ℕ
AUX = 5

abbrev pub COMMIT : ℕ
COMMIT = 6

abbrev pub FINISH : ℕ
FINISH = 7

-- the last kind of a version: only version 2 has FINISHes (PROTOCOL 2.8)
unfoldable pub last_kind : ℕ → ℕ
last_kind version = cond (finishing version) FINISH COMMIT

-- one of seven by the kind; that of FINISH where it is none of the first six
unfoldable pub by_kind : {A : Type 0} → ℕ → (send echo ready est aux commit finish : A) → A
by_kind kind send echo ready est aux commit finish =
    cond (eqb kind SEND) send
    (cond (eqb kind ECHO) echo
    (cond (eqb kind READY) ready
    (cond (eqb kind EST) est
    (cond (eqb kind AUX) aux
    (cond (eqb kind COMMIT) commit
    finish)))))

-- byte 1 of a message
abbrev pub kind_of : Message → ℕ
kind_of (Send i v) = SEND
kind_of (Echo i v) = ECHO
kind_of (Ready i v) = READY
kind_of (Est i r v) = EST
kind_of (Aux i r v) = AUX
kind_of (Commit k) = COMMIT
kind_of (Finish i v) = FINISH

-- byte 3, the instance; a COMMIT has none, which is 0 (PROTOCOL 2.1 to 2.6)
abbrev pub instance_of : Message → ℕ
instance_of (Send i v) = i
instance_of (Echo i v) = i
instance_of (Ready i v) = i
instance_of (Est i r v) = i
instance_of (Aux i r v) = i
instance_of (Commit k) = 0
instance_of (Finish i v) = i

-- byte 4, the round of an EST or AUX; the other kinds have 0 (PROTOCOL 2.1 to 2.6, 2.20)
abbrev pub round_of : Message → ℕ
round_of (Send i v) = 0
round_of (Echo i v) = 0
round_of (Ready i v) = 0
round_of (Est i r v) = r
round_of (Aux i r v) = r
round_of (Commit k) = 0
round_of (Finish i v) = 0

-- byte 5, the number of values: one, or those of a COMMIT (PROTOCOL 2.1 to 2.6)
abbrev pub count_of : Message → ℕ
count_of (Send i v) = 1
count_of (Echo i v) = 1
count_of (Ready i v) = 1
count_of (Est i r v) = 1
count_of (Aux i r v) = 1
count_of (Commit k) = k
count_of (Finish i v) = 1

-- twelve bytes, and eight more for each value (PROTOCOL 2.14)
abbrev pub length_of : Message → ℕ
length_of m = 12 + 8 * count_of m

-- the number of values that stand beside a message
abbrev pub besides : Message → ℕ
besides (Send i v) = 0
besides (Echo i v) = 0
besides (Ready i v) = 0
besides (Est i r v) = 0
besides (Aux i r v) = 0
besides (Commit k) = k
besides (Finish i v) = 0

-- the values of a message; those of a COMMIT are the first of xs, which stand beside it
abbrev pub values_of : Message → List ℕ → List ℕ
values_of (Send i v) xs = v ∷ []
values_of (Echo i v) xs = v ∷ []
values_of (Ready i v) xs = v ∷ []
values_of (Est i r v) xs = v ∷ []
values_of (Aux i r v) xs = v ∷ []
values_of (Commit k) xs = take k xs
values_of (Finish i v) xs = v ∷ []

-- a header with the fields that differ from message to message; byte 0 is the version of the session, and bytes 6 and 7 are 0 (PROTOCOL 2.7, 2.11)
abbrev pub header_with : (version kind sender instance round count session : ℕ) → Header
header_with version kind sender instance round count session = record {
  version = version;
  kind = kind;
  sender = sender;
  instance = instance;
  round = round;
  count = count;
  reserved = 0;
  session = session;
}

-- the header of a message from a sender in a session of that version
unfoldable pub header_for : Message → (version sender session : ℕ) → Header
header_for m version sender session = header_with version (kind_of m) sender (instance_of m) (round_of m) (count_of m) session

-- bytes 0 to 7
unfoldable pub front_bytes : Header → List ℕ
front_bytes h = h.version ∷ h.kind ∷ h.sender ∷ h.instance ∷ h.round ∷ h.count ∷ bytes2 h.reserved

-- bytes 0 to 11; the last four are the session number, most significant byte first (PROTOCOL 2.12)
unfoldable pub header_bytes : Header → List ℕ
header_bytes h = front_bytes h ++ bytes4 h.session

-- a header and the values after it, which start at byte 12 (PROTOCOL 2.13)
unfoldable pub message_bytes : Header → List ℕ → List ℕ
message_bytes h xs = header_bytes h ++ value_bytes xs

-- the bytes of a message from a sender in a session of that version
unfoldable pub encode : Message → (version sender session : ℕ) → List ℕ → List ℕ
encode m version sender session xs = message_bytes (header_for m version sender session) (values_of m xs)

-- out with w at its front: what stands behind it stays (PROTOCOL 9.4)
unfoldable pub at_front : List ℕ → List ℕ → List ℕ
at_front w out = w ++ drop (length w) out
