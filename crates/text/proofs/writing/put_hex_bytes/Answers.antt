-- Where there is room for all nothing is asked for each byte.
use Rattle.text.specs.laws.Digits.{room_given}
use borrow.Author.Rules.{rules}
use Rattle.text.proofs.writing.put_hex_bytes.Goals as goal

pub set_hex_bytes-requires : goal.set_hex_bytes-requires
set_hex_bytes-requires c = search (room_given, rules)

pub overflow_add-result : goal.overflow_add-result
overflow_add-result c = search (room_given, rules)
