-- What the writer of a header and values writes.
use Rattle.std.specs.Prelude.{ℕ, cond, List, [], length, take, leb}
use Rattle.wire.specs.declared.Header.{Header}
use Rattle.wire.specs.Message.{message_bytes}
use Rattle.wire.specs.Writing.{fitting}

-- what is written of a header and as many of xs as it counts: nothing where out is too short, or xs are fewer
unfoldable pub counted_values : Header → List ℕ → List ℕ → List ℕ
counted_values h xs out = cond (leb h.count (length xs)) (fitting (message_bytes h (take h.count xs)) out) []
