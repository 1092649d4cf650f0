-- `write_values` leaves the header, the values after it and then what was there, or all as it was.
use Prim.Native.Nat.{ℕ, ◌≤◌, ◌+◌, ◌*◌, ◌-◌}
use mathlib.Core.Path.{◌≡◌, refl}
use mathlib.Core.List.{List, ◌++◌}
use lib.ListN.{length, take, drop}
use borrow.Rule.Slice.PartMut.{put_mid}
use Rattle.wire.specs.declared.Header.{Header}
use Rattle.wire.specs.Bytes.{value_bytes}
use Rattle.wire.specs.Message.{header_bytes, message_bytes}
use Rattle.wire.specs.Writing.{fitting, Wrote}
use Rattle.wire.proofs.Laws.{patch, length_header, length_value_bytes, wrote_short, wrote_fitting}
use Rattle.wire.proofs.writing.write_values.Goals as goal

module _ (h : Header) (xs o : List ℕ) where
  parts : (out ys : List ℕ) → 12 + 8 * length xs ≤ length o → out ≡ header_bytes h ++ drop 12 o →
      ys ≡ value_bytes xs ++ drop (8 * length xs) (take (length out - 12) (drop 12 out)) →
      Wrote (fitting (message_bytes h xs) o) o (12 + 8 * length xs) (put_mid 12 (length out - 12) out ys)
  unfolding message_bytes
  parts out ys l p q =
      wrote_fitting h xs o _ l (patch (header_bytes h) (value_bytes xs) (message_bytes h xs) o out ys 12 (8 * length xs) _ l p q refl (length_header h) (length_value_bytes xs) refl)

pub returns-then-out-end : goal.returns-then-out-end
returns-then-out-end c = search wrote_short

pub returns : goal.returns
returns c = search parts
