-- The statements of the theorems.
use Rattle.std.specs.Prelude.{ℕ, ◌≤◌, ◌≡◌, true, List, length, drop}
use Rattle.wire.specs.Bytes.{values, rises}
use Rattle.wire.specs.Message.{kind_of, last_kind, count_of, length_of, values_of, header_for}
use Rattle.wire.specs.Reading.{header_of}
use Rattle.wire.specs.declared.Message.{Message}
use Rattle.wire_laws.specs.Proper.{Layout}

-- what is known of b where it was taken as m, be its numbers bytes or not
pub record Form (version n session link : ℕ) (b : List ℕ) (m : Message) : Type 0 where
  pub link_low : 1 ≤ link
  pub link_high : link ≤ n
  pub size : length b ≡ length_of m
  pub header : header_of b ≡ header_for m version link session
  pub kind : kind_of m ≤ last_kind version
  pub layout : Layout n link m
  pub held : values_of m (values (count_of m) (drop 12 b)) ≡ values (count_of m) (drop 12 b)
  pub rising : rises (values (count_of m) (drop 12 b)) ≡ true
