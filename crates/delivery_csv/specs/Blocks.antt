-- A long text converted block by block: what PROTOCOL 19.10 rests on.
use Rattle.std.specs.Prelude.{ℕ, ◌+◌, Bool, true, false, ◌&&◌, not, List, [], ◌∷◌, ◌++◌, ◌≡◌, eqb, length}
use Rattle.text.specs.Fields.{LF}
use Rattle.delivery_csv.specs.Fields.{Outcome, bad, good}
use Rattle.delivery_csv.specs.Records.{turned, records_read, records_text}
use Rattle.delivery_csv.specs.Lines.{lines_read, lines_text}
use Rattle.delivery_csv.specs.Converting.{drill_of_csv, csv_of_drill}
use Rattle.delivery_csv.specs.Back.{lacks_end}

-- whether the last byte is an LF outside quotes; `inside` says whether the text begins within quotes, as for `cut`
unfoldable pub ends_record : (turns : Bool → ℕ → Bool) (inside : Bool) → List ℕ → Bool
ends_record turns inside [] = true
ends_record turns inside (b ∷ []) = eqb b LF && not inside
ends_record turns inside (b ∷ c ∷ t) = ends_record turns (turns inside b) (c ∷ t)

-- a block of records that another can follow: it is empty, or the LF at its end ends a record
unfoldable pub complete : List ℕ → Bool
complete a = ends_record turned false a

-- the outcome of a text that stands after k records: the number of one that is not taken goes on from k, and what is written stands after t
unfoldable pub after : ℕ → List ℕ → Outcome (List ℕ) → Outcome (List ℕ)
after k t (bad n) = bad (k + n)
after k t (good u) = good (t ++ u)

pub record BlockByBlock : Type 0 where
  -- records: a block that is taken, and what follows it
  pub records_go_on : (a b : List ℕ) (rs : List (List (List ℕ))) → complete a ≡ true → records_read 1 a ≡ good rs →
      drill_of_csv (a ++ b) ≡ after (length rs) (lines_text rs) (drill_of_csv b)
  -- a block that is not taken decides, whatever follows it
  pub records_stop : (a b : List ℕ) (n : ℕ) → complete a ≡ true → drill_of_csv a ≡ bad n → drill_of_csv (a ++ b) ≡ bad n
  -- lines: the same, and a block is complete where it does not lack its end
  pub lines_go_on : (a b : List ℕ) (rs : List (List (List ℕ))) → lacks_end a ≡ false → lines_read 1 a ≡ good rs →
      csv_of_drill (a ++ b) ≡ after (length rs) (records_text rs) (csv_of_drill b)
  pub lines_stop : (a b : List ℕ) (n : ℕ) → lacks_end a ≡ false → csv_of_drill a ≡ bad n → csv_of_drill (a ++ b) ≡ bad n
