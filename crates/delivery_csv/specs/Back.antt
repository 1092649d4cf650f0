-- Conversions there and back: PROTOCOL 19.9.
use Rattle.std.specs.Prelude.{ℕ, Bool, true, false, not, List, [], ◌∷◌, ◌++◌, ◌≡◌, eqb}
use Rattle.text.specs.Fields.{LF}
use Rattle.delivery_csv.specs.Fields.{Outcome, bad, good}
use Rattle.delivery_csv.specs.Records.{records_read}
use Rattle.delivery_csv.specs.Converting.{drill_of_csv, csv_of_drill}

-- whether the last line has no LF
unfoldable pub lacks_end : List ℕ → Bool
lacks_end [] = false
lacks_end (b ∷ []) = not (eqb b LF)
lacks_end (b ∷ c ∷ t) = lacks_end (c ∷ t)

-- what is taken was not refused
unfoldable pub Taken : Outcome (List ℕ) → Type 0
Taken (bad n) = ⊥
Taken (good t) = Unit

pub record ThereAndBack : Type 0 where
  -- drill lines, each ended by LF, turned to records and back are the same bytes
  pub same_lines : (t u : List ℕ) → lacks_end t ≡ false → csv_of_drill t ≡ good u → drill_of_csv u ≡ good t
  -- a last line that lacks its LF gets one
  pub line_ended : (t u : List ℕ) → lacks_end t ≡ true → csv_of_drill t ≡ good u → drill_of_csv u ≡ good (t ++ (LF ∷ []))
  -- what lines are turned to is taken
  pub records_taken : (t u : List ℕ) → csv_of_drill t ≡ good u → Taken (drill_of_csv u)
  -- what records are turned to is taken
  pub lines_taken_lem : (t u : List ℕ) → drill_of_csv t ≡ good u → Taken (csv_of_drill u)
  -- records turned to lines and back have the same fields
  pub same_fields : (t u w : List ℕ) → drill_of_csv t ≡ good u → csv_of_drill u ≡ good w → records_read 1 w ≡ records_read 1 t
