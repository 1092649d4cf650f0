-- Numbers as text: decimals, and so many lower-case hexadecimal digits.
use Rattle.std.specs.Prelude.{ℕ, zero, suc, ◌+◌, ◌*◌, ◌-◌, ◌/◌, ◌%◌, ◌^◌, Bool, true, false, cond, ◌&&◌, List, [], ◌∷◌, ◌++◌, length, eqb, leb, ltb}
use Rattle.io.specs.Digits.{last_digits as digits, hex_digit_ascii}

-- the value of a digit, `0` to `9` and then `a` to `f`, and 16 for any other byte
unfoldable pub digit_of : ℕ → ℕ
digit_of c =
    cond (ltb c 48) 16
    (cond (leb c 57) (c - 48)
    (cond (ltb c 97) 16
    (cond (leb c 102) (c - 87)
    16)))

-- the form of a field: a decimal, or the number of its hexadecimal digits (PROTOCOL 11.3, 15.2)
abbrev pub DECIMAL : ℕ
DECIMAL = 10

abbrev pub WORD : ℕ
WORD = 8

abbrev pub PACK : ℕ
PACK = 16

unfoldable pub base_of : ℕ → ℕ
base_of form = cond (eqb form DECIMAL) 10 16

-- whether each byte of a field is a digit
unfoldable pub all_digits : ℕ → List ℕ → Bool
all_digits base [] = true
all_digits base (c ∷ f) = ltb (digit_of c) base && all_digits base f

-- a number with the digits of a field after its own
unfoldable pub value_from : ℕ → ℕ → List ℕ → ℕ
value_from base v [] = v
value_from base v (c ∷ f) = value_from base (v * base + digit_of c) f

-- the number of a field
unfoldable pub value_of : ℕ → List ℕ → ℕ
value_of form f = value_from (base_of form) 0 f

-- the number of digits is right: one or more in a decimal, leading zeros too, else exactly so many
unfoldable pub complete : ℕ → ℕ → Bool
complete form digits = cond (eqb form DECIMAL) (ltb 0 digits) (eqb digits form)

-- a field is a number of its form: a decimal is below 2^64 (PROTOCOL 11.12, 15.2), and one in 16 hexadecimal digits always is
unfoldable pub right : ℕ → List ℕ → Bool
right form f = complete form (length f) && (all_digits (base_of form) f && ltb (value_of form f) (2 ^ 64))

-- as many fields as forms, each right
unfoldable pub all_right : List ℕ → List (List ℕ) → Bool
all_right [] [] = true
all_right [] (f ∷ fs) = false
all_right (w ∷ ws) [] = false
all_right (w ∷ ws) (f ∷ fs) = right w f && all_right ws fs

-- the numbers of fields by their forms
unfoldable pub values_of : List ℕ → List (List ℕ) → List ℕ
values_of [] fs = []
values_of (w ∷ ws) [] = []
values_of (w ∷ ws) (f ∷ fs) = value_of w f ∷ values_of ws fs

-- a number in decimal digits without leading zeros, `0` being 48; at most k of them
unfoldable pub decimal_in : ℕ → ℕ → List ℕ
decimal_in zero n = []
decimal_in (suc k) n = cond (ltb n 10) ((48 + n) ∷ []) (decimal_in k (n / 10) ++ ((48 + n % 10) ∷ []))

-- a number below 2^64 has at most 20 digits
unfoldable pub decimal_text : ℕ → List ℕ
decimal_text n = decimal_in 20 n

-- a pack in 16 hexadecimal digits (PROTOCOL 15.15)
unfoldable pub hex_text : ℕ → List ℕ
hex_text n = digits 16 16 n

-- a word of 32 bits in 8 (PROTOCOL 11.4)
unfoldable pub word_text : ℕ → List ℕ
word_text n = digits 16 8 n

-- a byte in 2 (PROTOCOL 11.5)
unfoldable pub byte_text : ℕ → List ℕ
byte_text b = hex_digit_ascii (b / 16) ∷ hex_digit_ascii (b % 16) ∷ []
