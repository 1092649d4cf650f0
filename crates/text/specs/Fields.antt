-- A line as its fields, and the texts of the items of a list, one after the other.
use Rattle.std.specs.Prelude.{ℕ, cond, List, [], ◌∷◌, ◌++◌, eqb}

abbrev pub TAB : ℕ
TAB = 9

-- the end of a line
abbrev pub LF : ℕ
LF = 10

-- a byte in front of the first field
unfoldable pub in_front : ℕ → List (List ℕ) → List (List ℕ)
in_front c [] = []
in_front c (f ∷ fs) = (c ∷ f) ∷ fs

-- one tab between any two fields (PROTOCOL 11.2, 15.2); there is always a first one, be it empty
unfoldable pub fields : List ℕ → List (List ℕ)
fields [] = [] ∷ []
fields (c ∷ b) = cond (eqb c TAB) ([] ∷ fields b) (in_front c (fields b))

-- the one byte of a field that has one, else 0
unfoldable pub letter : List ℕ → ℕ
letter [] = 0
letter (c ∷ []) = c
letter (c ∷ d ∷ f) = 0

unfoldable pub each_text : (ℕ → List ℕ) → List ℕ → List ℕ
each_text f [] = []
each_text f (x ∷ xs) = f x ++ each_text f xs
