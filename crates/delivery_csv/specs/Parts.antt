-- The ended front of a text: what a converter takes at once that does not have its whole input yet (PROTOCOL 19.10).
use Rattle.std.specs.Prelude.{ℕ, ◌+◌, ◌≤◌, ◌<◌, Bool, true, false, cond, ◌&&◌, not, List, [], ◌∷◌, ◌++◌, ◌≡◌, eqb, ltb, length, take, drop}
use Rattle.text.specs.Fields.{LF}
use Rattle.delivery_csv.specs.Fields.{record_taken, cut, bad, good}
use Rattle.delivery_csv.specs.Records.{turned, record_right, record_fields, records_read}
use Rattle.delivery_csv.specs.Lines.{unturned, line_fields, lines_read}
use Rattle.delivery_csv.specs.Converting.{drill_of_csv, csv_of_drill}
use Rattle.delivery_csv.specs.Back.{lacks_end}
use Rattle.delivery_csv.specs.Blocks.{complete}
use Rattle.delivery_csv.specs.declared.parts.Part.{Part}

-- quotes count in records, and not in lines
unfoldable pub turned_if : (quotes : Bool) → Bool → ℕ → Bool
turned_if true = turned
turned_if false = unturned

-- the part once the byte b is passed, and k bytes with it: an LF outside quotes ends a record or line, and up to there goes the part,
-- unless it has `most` of them
unfoldable pub part_with : (most : ℕ) (inside : Bool) (k : ℕ) → Part → (b : ℕ) → Part
part_with most inside k part b = cond (eqb b LF && not inside && ltb part.count most) (record { length = k; count = part.count + 1 }) part

-- the part of a text of which k bytes are passed
unfoldable pub part_from : (turns : Bool → ℕ → Bool) (most : ℕ) (inside : Bool) (k : ℕ) → Part → List ℕ → Part
part_from turns most inside k part [] = part
part_from turns most inside k part (b ∷ t) = part_from turns most (turns inside b) (k + 1) (part_with most inside (k + 1) part b) t

-- the front of a text that ends with an end of a record or line: the longest with at most `most` of them
unfoldable pub ended_part : (quotes : Bool) → List ℕ → (most : ℕ) → Part
ended_part quotes t most = part_from (turned_if quotes) most false 0 (record { length = 0; count = 0 }) t

pub record PartsEnded : Type 0 where
  pub within : (quotes : Bool) (t : List ℕ) (most : ℕ) → (ended_part quotes t most).length ≤ length t
  pub at_most : (quotes : Bool) (t : List ℕ) (most : ℕ) → (ended_part quotes t most).count ≤ most
  -- another block can follow it
  pub records_complete : (t : List ℕ) (most : ℕ) → complete (take (ended_part true t most).length t) ≡ true
  pub lines_complete : (t : List ℕ) (most : ℕ) → lacks_end (take (ended_part false t most).length t) ≡ false
  -- its count is that of its records or lines
  pub records_counted : (t : List ℕ) (most : ℕ) (rs : List (List (List ℕ))) →
      records_read 1 (take (ended_part true t most).length t) ≡ good rs → length rs ≡ (ended_part true t most).count
  pub lines_counted : (t : List ℕ) (most : ℕ) (rs : List (List (List ℕ))) →
      lines_read 1 (take (ended_part false t most).length t) ≡ good rs → length rs ≡ (ended_part false t most).count
  -- where it could have more, no end stands in the rest
  pub rest_unended : (quotes : Bool) (t : List ℕ) (most : ℕ) → (ended_part quotes t most).count < most →
      length (cut (turned_if quotes) LF false (drop (ended_part quotes t most).length t)) ≡ 1
  -- what is taken is short: 16 fields of 64 bytes, each doubled and in quotes in a record, with a byte between any two
  pub records_short : (p : List ℕ) → record_right p ≡ true → record_taken (record_fields p) ≡ true → length p ≤ 2095
  pub lines_short : (p : List ℕ) → record_taken (line_fields p) ≡ true → length p ≤ 1039
  -- so that a long rest without an end is not taken, whatever follows it
  pub records_too_long : (t u : List ℕ) → length (cut turned LF false t) ≡ 1 → 4096 ≤ length t → drill_of_csv (t ++ u) ≡ bad 1
  pub lines_too_long : (t u : List ℕ) → length (cut unturned LF false t) ≡ 1 → 4096 ≤ length t → csv_of_drill (t ++ u) ≡ bad 1
