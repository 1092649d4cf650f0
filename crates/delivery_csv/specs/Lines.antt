-- Drill lines: PROTOCOL 19.3.
use Rattle.std.specs.Prelude.{ℕ, Bool, true, false, List, [], ◌∷◌, ◌++◌}
use Rattle.text.specs.Fields.{TAB, LF}
use Rattle.delivery_csv.specs.Fields.{cut, pieces, joined, Outcome, read_all}

-- a quote is a byte like others
unfoldable pub unturned : Bool → ℕ → Bool
unturned inside b = false

unfoldable pub whole_line : List ℕ → List ℕ
whole_line p = p

-- lines end with LF
unfoldable pub lines_in : List ℕ → List (List ℕ)
lines_in t = pieces whole_line (cut unturned LF false t)

-- a tab between any two fields
unfoldable pub line_fields : List ℕ → List (List ℕ)
line_fields p = cut unturned TAB false p

unfoldable pub line_right : List ℕ → Bool
line_right p = true

-- the fields of all lines, numbered from n on
unfoldable pub lines_read : ℕ → List ℕ → Outcome (List (List (List ℕ)))
lines_read n t = read_all line_right line_fields n (lines_in t)

-- ---- writing

unfoldable pub lines_text : List (List (List ℕ)) → List ℕ
lines_text [] = []
lines_text (r ∷ rs) = joined TAB r ++ (LF ∷ lines_text rs)
