-- One more output stored in the marks and the array.
use Rattle.std.specs.Prelude.{ℕ, ◌-◌, List, ◌≡◌, Option, Some, None}
use Rattle.quorum.specs.Marks.{with_mark}
use Rattle.records.specs.Words.{put}

-- the marks and values with output o of broadcast i
abbrev pub stored_marks : ℕ → ℕ → Option ℕ → ℕ
stored_marks outputs i (Some v) = with_mark outputs i
stored_marks outputs i None = outputs

abbrev pub stored_values : List ℕ → ℕ → Option ℕ → List ℕ
stored_values values i (Some v) = put values (i - 1) v
stored_values values i None = values

pub record Stored (outputs : ℕ) (values : List ℕ) (i : ℕ) (o : Option ℕ) (outputs' : ℕ) (values' : List ℕ) : Type 0 where
  pub new_marks : outputs' ≡ stored_marks outputs i o
  pub new_values : values' ≡ stored_values values i o
