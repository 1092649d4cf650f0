-- `hex_fits` halves where the definition doubles, so that nothing wraps.
use Rattle.text.specs.laws.Digits.{room_cases}
use Rattle.text.proofs.writing.hex_fits.Goals as goal

pub returns-then-room-at : goal.returns-then-room-at
returns-then-room-at c = search room_cases

pub returns : goal.returns
returns c = search room_cases
