-- What a line of a journal says, where it is of the right form.
use Rattle.std.specs.Prelude.{ℕ, ◌+◌, ◌*◌, Bool, true, false, cond, ◌&&◌, not, List, [], ◌∷◌, eqb, ltb, length, replicate, take, drop, get_or}
use Rattle.text.specs.Numbers.{DECIMAL, digit_of, right}
use Rattle.opening.specs.Arguments.{Arguments, arguments}
use Rattle.journal.specs.Lines.{opening_forms}

-- a decimal of more than one digit that starts with 0
unfoldable pub zero_led : List ℕ → Bool
zero_led [] = false
zero_led (c ∷ []) = false
zero_led (c ∷ d ∷ f) = eqb c 48

-- a field is a number of its form as the journal writes it: no decimal has a leading zero, hexadecimal digits are in lower case (PROTOCOL 11.3)
unfoldable pub proper : ℕ → List ℕ → Bool
proper form f = right form f && not (eqb form DECIMAL && zero_led f)

-- as many fields as forms, each proper
unfoldable pub all_proper : List ℕ → List (List ℕ) → Bool
all_proper [] [] = true
all_proper [] (f ∷ fs) = false
all_proper (w ∷ ws) [] = false
all_proper (w ∷ ws) (f ∷ fs) = proper w f && all_proper ws fs

-- the field at a place, empty where there is none
unfoldable pub field_at : List (List ℕ) → ℕ → List ℕ
field_at fs k = get_or fs k []

-- the decimals that follow the n coin words of an opening line of so many fields after its letter: n weights, and the kind of coins; it may
-- lack the kind, or both (PROTOCOL 11.11)
unfoldable pub figure_count : (n count : ℕ) → ℕ
figure_count n count = cond (eqb count (7 + n)) 0 (cond (eqb count (7 + n + n)) n (n + 1))

-- the forms of such a line
unfoldable pub forms_for : (n count : ℕ) → List ℕ
forms_for n count = opening_forms n (figure_count n count)

-- the weights among the numbers of an opening line: a line without them reads as all 1
unfoldable pub weights_from : ℕ → List ℕ → List ℕ
weights_from n xs = cond (eqb (length xs) (7 + n)) (replicate n 1) (take n (drop (7 + n) xs))

-- the kind of coins, the last number: a line without it has printed ones (PROTOCOL 11.11)
unfoldable pub boxed_from : ℕ → List ℕ → ℕ
boxed_from n xs = get_or xs (7 + n + n) 0

-- the arguments of the opening of n concentrators that the numbers of its line stand for; n is the second
abbrev pub arguments_from : ℕ → List ℕ → Arguments
arguments_from n xs =
    arguments (get_or xs 0 0) n (get_or xs 2 0) (get_or xs 3 0) (get_or xs 4 0) (get_or xs 5 0) (get_or xs 6 0) (take n (drop 7 xs)) (weights_from n xs) (boxed_from n xs)

-- a field of bytes, each two lower-case hexadecimal digits
unfoldable pub hex_right : List ℕ → Bool
hex_right [] = true
hex_right (a ∷ []) = false
hex_right (a ∷ b ∷ f) = ltb (digit_of a) 16 && (ltb (digit_of b) 16 && hex_right f)

unfoldable pub bytes_of : List ℕ → List ℕ
bytes_of [] = []
bytes_of (a ∷ []) = []
bytes_of (a ∷ b ∷ f) = (digit_of a * 16 + digit_of b) ∷ bytes_of f
