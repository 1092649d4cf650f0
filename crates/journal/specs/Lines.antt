-- The lines of the journal: fields with one tab between any two, ended by LF, numbers as in the drill, decimals without leading zeros
-- (PROTOCOL 11.2 to 11.7).
use Rattle.std.specs.Prelude.{ℕ, ◌/◌, ◌%◌, cond, List, [], ◌∷◌, ◌++◌, eqb, length, replicate}
use Rattle.io.specs.Digits.{last_digits, hex_digit_ascii}
use Rattle.text.specs.Fields.{TAB, LF}
use Rattle.text.specs.Numbers.{DECIMAL, WORD, PACK, decimal_text}
use Rattle.opening.specs.Arguments.{Arguments}

-- the letters, in ASCII
abbrev pub LETTER_O : ℕ
LETTER_O = 79

abbrev pub LETTER_D : ℕ
LETTER_D = 68

abbrev pub LETTER_T : ℕ
LETTER_T = 84

abbrev pub LETTER_K : ℕ
LETTER_K = 75

-- a number in its form: a decimal, or so many hexadecimal digits
unfoldable pub number_text : ℕ → ℕ → List ℕ
number_text form n = cond (eqb form DECIMAL) (decimal_text n) (last_digits 16 form n)

unfoldable pub number_texts : List ℕ → List ℕ → List (List ℕ)
number_texts [] xs = []
number_texts (w ∷ ws) [] = []
number_texts (w ∷ ws) (x ∷ xs) = number_text w x ∷ number_texts ws xs

-- fields, parted by tabs
unfoldable pub tabbed : List ℕ → List (List ℕ) → List ℕ
tabbed f [] = f
tabbed f (g ∷ fs) = f ++ (TAB ∷ tabbed g fs)

-- version, n, ta, ts, own number, session; own input; so many coin words; so many decimals after them
unfoldable pub opening_forms : ℕ → ℕ → List ℕ
opening_forms coins figures =
    DECIMAL ∷ DECIMAL ∷ DECIMAL ∷ DECIMAL ∷ DECIMAL ∷ DECIMAL ∷ PACK ∷ (replicate coins WORD ++ replicate figures DECIMAL)

-- the decimals after the coin words: the weights, and the kind of coins (PROTOCOL 11.4)
abbrev pub figures : Arguments → List ℕ
figures o = o.weights ++ (o.boxed ∷ [])

-- the numbers of an opening line, and their forms
abbrev pub numbers_of : Arguments → List ℕ
numbers_of o = o.version ∷ o.n ∷ o.ta ∷ o.ts ∷ o.own ∷ o.session ∷ o.input ∷ (o.coins ++ figures o)

abbrev pub forms_of : Arguments → List ℕ
forms_of o = opening_forms (length o.coins) (length (figures o))

-- an accepted opening, ta as it is given; without its LF
unfoldable pub opening_text : Arguments → List ℕ
opening_text o = tabbed (LETTER_O ∷ []) (number_texts (forms_of o) (numbers_of o))

-- bytes in lower-case hexadecimal
unfoldable pub hex_bytes : List ℕ → List ℕ
hex_bytes [] = []
hex_bytes (b ∷ bs) = hex_digit_ascii (b / 16) ∷ hex_digit_ascii (b % 16) ∷ hex_bytes bs

-- an accepted delivery: its link, and its message's bytes
unfoldable pub delivery_text : ℕ → List ℕ → List ℕ
delivery_text link b = tabbed (LETTER_D ∷ []) (decimal_text link ∷ hex_bytes b ∷ [])

-- a turn that is neither idle nor refused
abbrev pub turn_text : List ℕ
turn_text = LETTER_T ∷ []

-- an accepted recording, a repeat too: vote, round and bit (PROTOCOL 11.7)
abbrev pub recording_forms : List ℕ
recording_forms = DECIMAL ∷ DECIMAL ∷ DECIMAL ∷ []

unfoldable pub recording_text : ℕ → ℕ → ℕ → List ℕ
recording_text i r b = tabbed (LETTER_K ∷ []) (number_texts recording_forms (i ∷ r ∷ b ∷ []))

-- a line with its end
unfoldable pub with_end : List ℕ → List ℕ
with_end b = b ++ (LF ∷ [])

abbrev pub opening_line : Arguments → List ℕ
opening_line o = with_end (opening_text o)

abbrev pub delivery_line : ℕ → List ℕ → List ℕ
delivery_line link b = with_end (delivery_text link b)

abbrev pub turn_line : List ℕ
turn_line = with_end turn_text

abbrev pub recording_line : ℕ → ℕ → ℕ → List ℕ
recording_line i r b = with_end (recording_text i r b)
