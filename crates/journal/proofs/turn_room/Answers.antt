-- `turn_room` goes by the bytes for the line.
use Rattle.journal.specs.laws.Cases.{room_cases}
use Rattle.journal.proofs.turn_room.Goals as goal

pub returns-then-line-lt-LINE_BYTES : goal.returns-then-line-lt-LINE_BYTES
returns-then-line-lt-LINE_BYTES c = search room_cases

pub returns-else-line-lt-LINE_BYTES : goal.returns-else-line-lt-LINE_BYTES
returns-else-line-lt-LINE_BYTES c = search room_cases
