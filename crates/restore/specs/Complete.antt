-- A text by its complete lines.
use Rattle.std.specs.Prelude.{ℕ, cond, List, [], ◌∷◌, ◌++◌, eqb}
use Rattle.text.specs.Fields.{LF}

-- the complete lines, without their LFs; `front` are the bytes of the line before xs. What stands after the last LF is in none.
unfoldable pub lines_from : List ℕ → List ℕ → List (List ℕ)
lines_from front [] = []
lines_from front (x ∷ xs) = cond (eqb x LF) (front ∷ lines_from [] xs) (lines_from (front ++ (x ∷ [])) xs)

unfoldable pub lines_of : List ℕ → List (List ℕ)
lines_of xs = lines_from [] xs

-- the text of lines
abbrev pub joined : List (List ℕ) → List ℕ
joined [] = []
joined (b ∷ bs) = b ++ (LF ∷ joined bs)
