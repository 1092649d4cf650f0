-- Reading a line byte by byte.
use Rattle.std.specs.Prelude.{ℕ, ◌+◌, ◌*◌, ◌^◌, Bool, cond, ◌&&◌, ◌||◌, List, [], ◌∷◌, get_or, eqb, ltb, Option, Some, None}
use Rattle.std.specs.Option.{option_map}
use Rattle.text.specs.Fields.{TAB}
use Rattle.text.specs.Numbers.{DECIMAL, WORD, PACK, digit_of, base_of, complete}
use Rattle.drill_lines.specs.Grammar.{letter_of}
use Rattle.drill_lines.specs.declared.Letter.{Letter}
use Rattle.drill_lines.specs.declared.Letter.TheVariants as letters
use Rattle.drill_lines.specs.declared.Line.{Line}
use Rattle.drill_lines.specs.declared.Line.TheVariants.{N, C, P, T, D, L, R}
use Rattle.drill_lines.specs.declared.Fields.{Fields}
use Rattle.drill_lines.specs.declared.Reader.{Reader}
use Rattle.drill_lines.specs.declared.Reader.TheVariants.{Empty, Open, Bad}

-- how many fields a line has, its letter's too
unfoldable pub count_of : Letter → ℕ
count_of letters.N = 5
count_of letters.C = 3
count_of letters.P = 3
count_of letters.T = 2
count_of letters.D = 3
count_of letters.L = 7
count_of letters.R = 1

-- the form of the field after the first number
unfoldable pub second_form : Letter → ℕ
second_form letters.N = DECIMAL
second_form letters.C = WORD
second_form letters.P = PACK
second_form letters.T = DECIMAL
second_form letters.D = DECIMAL
second_form letters.L = DECIMAL
second_form letters.R = DECIMAL

-- the form of a field; the letter's has no digit after the letter
unfoldable pub form_of : Letter → (field : ℕ) → ℕ
form_of l field = cond (eqb field 0) 0 (cond (eqb field 2) (second_form l) DECIMAL)

-- whether a field with so many digits may have one more
unfoldable pub room : (form digits : ℕ) → Bool
room form digits = eqb form DECIMAL || ltb digits form

-- the digits with one more; in a decimal 1 stands for one or more
unfoldable pub digit_count : (form digits : ℕ) → ℕ
digit_count form digits = cond (eqb form DECIMAL) 1 (cond (ltb digits form) (digits + 1) digits)

-- the last six numbers
unfoldable pub pushed : List ℕ → ℕ → List ℕ
pushed x v = get_or x 1 0 ∷ get_or x 2 0 ∷ get_or x 3 0 ∷ get_or x 4 0 ∷ get_or x 5 0 ∷ v ∷ []

unfoldable pub no_numbers : List ℕ
no_numbers = 0 ∷ 0 ∷ 0 ∷ 0 ∷ 0 ∷ 0 ∷ []

-- a line that may still be of the right form
unfoldable pub reading : Letter → (field digits value : ℕ) → List ℕ → Fields
reading l field digits value x = record { letter = l; field = field; digits = digits; value = value; numbers = x }

-- a line of which nothing is read
unfoldable pub start : Reader
start = Empty

-- the letter is read
unfoldable pub lettered : ℕ → Option Fields
lettered c = option_map (λ l. reading l 0 0 0 no_numbers) (letter_of c)

-- a tab is read: the field must be a number of its form, and another one must follow
unfoldable pub parted : Fields → Option Fields
parted f =
    cond (complete (form_of f.letter f.field) f.digits && ltb (f.field + 1) (count_of f.letter))
    (Some (reading f.letter (f.field + 1) 0 0 (pushed f.numbers f.value)))
    None

-- one more byte of a field whose form is w is read: it must be a digit, and the number stay below 2^64
unfoldable pub extended_as : ℕ → Fields → ℕ → Option Fields
extended_as w f c =
    cond (room w f.digits && (ltb (digit_of c) (base_of w) && ltb (f.value * base_of w + digit_of c) (2 ^ 64)))
    (Some (reading f.letter f.field (digit_count w f.digits) (f.value * base_of w + digit_of c) f.numbers))
    None

unfoldable pub extended : Fields → ℕ → Option Fields
extended f c = extended_as (form_of f.letter f.field) f c

-- one more byte after the letter
unfoldable pub next : Fields → ℕ → Option Fields
next f c = cond (eqb c TAB) (parted f) (extended f c)

-- a line whose fields were read, or are of the wrong form
unfoldable pub read : Option Fields → Reader
read None = Bad
read (Some f) = Open f

-- one more byte is read
unfoldable pub fed : Reader → ℕ → Reader
fed Empty c = read (lettered c)
fed (Open f) c = read (next f c)
fed Bad c = Bad

-- the line of a letter and the last six numbers
unfoldable pub line_with : Letter → List ℕ → Line
line_with letters.N x = N (get_or x 2 0) (get_or x 3 0) (get_or x 4 0) (get_or x 5 0)
line_with letters.C x = C (get_or x 4 0) (get_or x 5 0)
line_with letters.P x = P (get_or x 4 0) (get_or x 5 0)
line_with letters.T x = T (get_or x 5 0)
line_with letters.D x = D (get_or x 4 0) (get_or x 5 0)
line_with letters.L x = L (record {
  p = get_or x 0 0;
  q = get_or x 1 0;
  kind = get_or x 2 0;
  instance = get_or x 3 0;
  round = get_or x 4 0;
  value = get_or x 5 0;
})
line_with letters.R x = R

-- the last field must be a number of its form, and no other one be missing
unfoldable pub line_read : Fields → Option Line
line_read f =
    cond (complete (form_of f.letter f.field) f.digits && eqb (f.field + 1) (count_of f.letter))
    (Some (line_with f.letter (pushed f.numbers f.value)))
    None

-- the line is over
unfoldable pub finished : Reader → Option Line
finished Empty = None
finished (Open f) = line_read f
finished Bad = None

-- bytes are read one after the other
unfoldable pub fed_all : Reader → List ℕ → Reader
fed_all r [] = r
fed_all r (c ∷ b) = fed_all (fed r c) b
