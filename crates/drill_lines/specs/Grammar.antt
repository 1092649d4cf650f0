-- What a line of the drill's input is taken as: fields with one tab between any two (PROTOCOL 15.2).
use Rattle.std.specs.Prelude.{ℕ, cond, List, [], ◌∷◌, get_or, eqb, Option, Some, None}
use Rattle.std.specs.Option.{option_and_then}
use Rattle.text.specs.Fields.{fields, letter}
use Rattle.text.specs.Numbers.{DECIMAL, WORD, PACK, all_right, values_of}
use Rattle.drill_lines.specs.declared.Letter.{Letter}
use Rattle.drill_lines.specs.declared.Letter.TheVariants as letters
use Rattle.drill_lines.specs.declared.Line.{Line}
use Rattle.drill_lines.specs.declared.Line.TheVariants.{N, C, P, T, D, L, R}

-- the letters, in ASCII
abbrev pub LETTER_N : ℕ
LETTER_N = 78

abbrev pub LETTER_C : ℕ
LETTER_C = 67

abbrev pub LETTER_P : ℕ
LETTER_P = 80

abbrev pub LETTER_T : ℕ
LETTER_T = 84

abbrev pub LETTER_D : ℕ
LETTER_D = 68

abbrev pub LETTER_L : ℕ
LETTER_L = 76

abbrev pub LETTER_R : ℕ
LETTER_R = 82

-- the line of the numbers of the fields after the letter, where these are of their forms
unfoldable pub line_or : List ℕ → List (List ℕ) → (List ℕ → Line) → Option Line
line_or forms fs make = cond (all_right forms fs) (Some (make (values_of forms fs))) None

-- `N n ta ts session`, the settings; fields are decimal unless said otherwise (PROTOCOL 15.3, 15.10)
unfoldable pub line_n : List ℕ → Line
line_n xs = N (get_or xs 0 0) (get_or xs 1 0) (get_or xs 2 0) (get_or xs 3 0)

-- `C i word`, a coin word (PROTOCOL 15.4)
unfoldable pub line_c : List ℕ → Line
line_c xs = C (get_or xs 0 0) (get_or xs 1 0)

-- `P p value`, an honest one's input (PROTOCOL 15.5)
unfoldable pub line_p : List ℕ → Line
line_p xs = P (get_or xs 0 0) (get_or xs 1 0)

-- `T p`, a turn (PROTOCOL 15.6)
unfoldable pub line_t : List ℕ → Line
line_t xs = T (get_or xs 0 0)

-- `D k q`, the delivery of a message (PROTOCOL 15.7)
unfoldable pub line_d : List ℕ → Line
line_d xs = D (get_or xs 0 0) (get_or xs 1 0)

-- `L p q kind instance round value`, a liar's message (PROTOCOL 15.8)
unfoldable pub line_l : List ℕ → Line
line_l xs = L (record {
  p = get_or xs 0 0;
  q = get_or xs 1 0;
  kind = get_or xs 2 0;
  instance = get_or xs 3 0;
  round = get_or xs 4 0;
  value = get_or xs 5 0;
})

-- `R`, a run (PROTOCOL 15.9)
unfoldable pub line_r : List ℕ → Line
line_r xs = R

-- the letter that a byte is, if it is one
unfoldable pub letter_of : ℕ → Option Letter
letter_of c =
    cond (eqb c LETTER_N) (Some letters.N)
    (cond (eqb c LETTER_C) (Some letters.C)
    (cond (eqb c LETTER_P) (Some letters.P)
    (cond (eqb c LETTER_T) (Some letters.T)
    (cond (eqb c LETTER_D) (Some letters.D)
    (cond (eqb c LETTER_L) (Some letters.L)
    (cond (eqb c LETTER_R) (Some letters.R)
    None))))))

-- the line of a letter and the fields after it
unfoldable pub by_letter : Letter → List (List ℕ) → Option Line
by_letter letters.N fs = line_or (DECIMAL ∷ DECIMAL ∷ DECIMAL ∷ DECIMAL ∷ []) fs line_n
by_letter letters.C fs = line_or (DECIMAL ∷ WORD ∷ []) fs line_c
by_letter letters.P fs = line_or (DECIMAL ∷ PACK ∷ []) fs line_p
by_letter letters.T fs = line_or (DECIMAL ∷ []) fs line_t
by_letter letters.D fs = line_or (DECIMAL ∷ DECIMAL ∷ []) fs line_d
by_letter letters.L fs = line_or (DECIMAL ∷ DECIMAL ∷ DECIMAL ∷ DECIMAL ∷ DECIMAL ∷ DECIMAL ∷ []) fs line_l
by_letter letters.R fs = line_or [] fs line_r

unfoldable pub line_of_fields : List (List ℕ) → Option Line
line_of_fields [] = None
line_of_fields (f ∷ fs) = option_and_then (λ l. by_letter l fs) (letter_of (letter f))

-- the line of the bytes before its LF; None where they are of another form (PROTOCOL 15.2)
unfoldable pub line_of : List ℕ → Option Line
line_of b = line_of_fields (fields b)
