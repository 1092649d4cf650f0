-- Without FINISHes a delivery records as before there were any: what it accepts is of another kind, so it decides nothing.
use Rattle.std.specs.Prelude.{ℕ, ◌≤◌, false, List, ◌≡◌, Ok}
use Rattle.std.proofs.Common.{arith}
use Rattle.settings.specs.Versions.{finishing}
use Rattle.records.specs.Records.{version}
use Rattle.session.specs.Session.{session_with, session_of}
use Rattle.wire.specs.Message.{COMMIT, kind_of}
use Rattle.wire.specs.laws.Kinds.{plain_last}
use Rattle.wire.specs.declared.Message.{Message}
use Rattle.wire_laws.proofs.Converse.{taken_form}
use Rattle.delivery.specs.Delivery.{verdict}
use Rattle.delivery.specs.laws.Accepting.{accepting}

pub first_kinds : (s : List ℕ) (link : ℕ) (b : List ℕ) (m : Message) → finishing (version s) ≡ false → verdict s link b ≡ Ok m → kind_of m ≤ COMMIT
unfolding session_of session_with
first_kinds s link b m e a = omega (arith, plain_last (version s) e, (taken_form _ _ _ link b m (accepting s link b m a).taken).kind)
