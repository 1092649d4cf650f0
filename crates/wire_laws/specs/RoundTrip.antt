-- The statements of the theorems: what is written is read back, and only what is written is taken (PROTOCOL 2.18).
use Rattle.std.specs.Prelude.{ℕ, ◌+◌, ◌≤◌, ◌<◌, ◌^◌, ◌≡◌, List, get_or, drop, Ok}
use Rattle.wire.specs.Bytes.{value_at, values}
use Rattle.wire.specs.Message.{count_of, values_of, encode}
use Rattle.wire.specs.Reading.{read_message}
use Rattle.wire.specs.declared.Message.{Message}
use Rattle.wire_laws.specs.Proper.{AllBytes, Proper}

-- the bytes of m, over the link of its sender, are read as m, and the values from byte 12 are the values that were written
pub record ReadBack (version n session sender : ℕ) (m : Message) (xs : List ℕ) : Type 0 where
  pub message : read_message version n session sender (encode m version sender session xs) ≡ Ok m
  pub all_values_lem : values (count_of m) (drop 12 (encode m version sender session xs)) ≡ values_of m xs
  pub each_value : (k : ℕ) → k < count_of m → value_at (drop 12 (encode m version sender session xs)) (k + 1) ≡ get_or (values_of m xs) k 0

-- every message that keeps to the layout is read back, at every concentrator of the same version, n and session
abbrev pub RoundTrip : Type 0
RoundTrip =
    (version n session sender : ℕ) (m : Message) (xs : List ℕ) → session < 2 ^ 32 → 1 ≤ sender → sender ≤ n → Proper version n sender m xs →
    ReadBack version n session sender m xs

-- the bytes b, taken over a link as m, are those of m from the link's concentrator, with the values that b holds, and m keeps to the layout
pub record Encoded (version n session link : ℕ) (b : List ℕ) (m : Message) : Type 0 where
  pub link_low : 1 ≤ link
  pub link_high : link ≤ n
  pub bytes : b ≡ encode m version link session (values (count_of m) (drop 12 b))
  pub proper : Proper version n link m (values (count_of m) (drop 12 b))

-- nothing but the bytes of a message that keeps to the layout is taken
abbrev pub OnlyEncodings : Type 0
OnlyEncodings =
    (version n session link : ℕ) (b : List ℕ) (m : Message) → AllBytes b → read_message version n session link b ≡ Ok m → Encoded version n session link b m
