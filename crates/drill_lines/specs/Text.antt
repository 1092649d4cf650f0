-- The bytes that the drill prints.
use Rattle.std.specs.Prelude.{ℕ, List, [], ◌∷◌, ◌++◌}
use Rattle.text.specs.Fields.{TAB, LF}
use Rattle.text.specs.Numbers.{decimal_text, hex_text}
use Rattle.text.specs.Fields.{each_text}

abbrev pub COMMA : ℕ
COMMA = 44

abbrev pub DASH : ℕ
DASH = 45

-- a further value, after a comma
unfoldable pub comma_text : ℕ → List ℕ
comma_text x = COMMA ∷ hex_text x

-- the packs in force in 16 hexadecimal digits, with commas between them, a dash where there are none (PROTOCOL 15.15)
unfoldable pub values_text : List ℕ → List ℕ
values_text [] = DASH ∷ []
values_text (x ∷ xs) = hex_text x ++ each_text comma_text xs

-- a decimal and the byte after it: a tab, or the end of the line
unfoldable pub number_text : (n after : ℕ) → List ℕ
number_text n after = decimal_text n ++ (after ∷ [])

-- the line of an honest one: number, exit, closed or not, count of turns, packs in force (PROTOCOL 15.15)
unfoldable pub result_line : (number exit closed turns : ℕ) → List ℕ → List ℕ
result_line number exit closed turns values =
    number_text number TAB ++ (number_text exit TAB ++ (number_text closed TAB ++ (number_text turns TAB ++ (values_text values ++ (LF ∷ [])))))

-- the last line: how many messages were sent (PROTOCOL 15.15)
unfoldable pub sent_line : ℕ → List ℕ
sent_line count = (115 ∷ 101 ∷ 110 ∷ 116 ∷ TAB ∷ []) ++ number_text count LF

-- what a bad line prints: `bad` and its number (PROTOCOL 15.16)
unfoldable pub bad_line : ℕ → List ℕ
bad_line number = (98 ∷ 97 ∷ 100 ∷ TAB ∷ []) ++ number_text number LF
