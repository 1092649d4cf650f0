-- `put_header` leaves the twelve bytes, written in two parts, and then what was there.
use Rattle.wire.specs.Bytes.{bytes2, bytes4}
use Rattle.wire.specs.Message.{front_bytes, header_bytes}
use Rattle.wire.proofs.Laws.{patch}
use Rattle.wire.proofs.writing.put_header.Goals as goal

pub returns : goal.returns
unfolding bytes2 bytes4 front_bytes header_bytes
returns c = search patch
