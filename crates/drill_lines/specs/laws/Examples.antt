-- Some lines and texts, by computing.
use Rattle.std.specs.Prelude.{ℕ, List, [], ◌∷◌, ◌≡◌, refl, Option, Some, None}
use Rattle.text.specs.Fields.{in_front, fields, letter}
use Rattle.text.specs.Numbers.{digit_of, base_of, all_digits, value_from, value_of, complete, right, all_right, values_of}
use Rattle.drill_lines.specs.Grammar.{line_or, line_n, line_c, line_p, line_t, line_d, line_l, line_r, letter_of, by_letter, line_of_fields, line_of}
use Rattle.text.specs.Numbers.{decimal_in, decimal_text, hex_text}
use Rattle.text.specs.Fields.{each_text}
use Rattle.drill_lines.specs.Text.{comma_text, values_text, number_text, result_line, sent_line, bad_line}
use Rattle.drill_lines.specs.declared.Line.{Line}
use Rattle.drill_lines.specs.declared.Line.TheVariants.{N, C, P, T, D, L, R}

-- the lines of a list of inputs
lines_of : List (List ℕ) → List (Option Line)
lines_of [] = []
lines_of (b ∷ bs) = line_of b ∷ lines_of bs

lines_taken_lem :
    lines_of (
    -- "N TAB 4 TAB 1 TAB 1 TAB 7"
    (78 ∷ 9 ∷ 52 ∷ 9 ∷ 49 ∷ 9 ∷ 49 ∷ 9 ∷ 55 ∷ [])
    -- "R"
    ∷ (82 ∷ [])
    -- "T TAB 001"
    ∷ (84 ∷ 9 ∷ 48 ∷ 48 ∷ 49 ∷ [])
    -- "C TAB 2 TAB 0000000f"
    ∷ (67 ∷ 9 ∷ 50 ∷ 9 ∷ 48 ∷ 48 ∷ 48 ∷ 48 ∷ 48 ∷ 48 ∷ 48 ∷ 102 ∷ [])
    -- "P TAB 1 TAB 0000000000000005"
    ∷ (80 ∷ 9 ∷ 49 ∷ 9 ∷ 48 ∷ 48 ∷ 48 ∷ 48 ∷ 48 ∷ 48 ∷ 48 ∷ 48 ∷ 48 ∷ 48 ∷ 48 ∷ 48 ∷ 48 ∷ 48 ∷ 48 ∷ 53 ∷ [])
    -- "D TAB 12 TAB 3"
    ∷ (68 ∷ 9 ∷ 49 ∷ 50 ∷ 9 ∷ 51 ∷ [])
    -- "L TAB 4 TAB 1 TAB 5 TAB 2 TAB 1 TAB 18446744073709551615"
    ∷ (76 ∷ 9 ∷ 52 ∷ 9 ∷ 49 ∷ 9 ∷ 53 ∷ 9 ∷ 50 ∷ 9 ∷ 49 ∷ 9 ∷ 49 ∷ 56 ∷ 52 ∷ 52 ∷ 54 ∷ 55 ∷ 52 ∷ 52 ∷ 48 ∷ 55 ∷ 51 ∷ 55 ∷ 48 ∷ 57 ∷ 53 ∷ 53 ∷ 49 ∷ 54 ∷ 49 ∷ 53 ∷ [])
    ∷ []
    )
    ≡ Some (N 4 1 1 7) ∷ Some R ∷ Some (T 1) ∷ Some (C 2 15) ∷ Some (P 1 5) ∷ Some (D 12 3) ∷ Some (L (record { p = 4; q = 1; kind = 5; instance = 2; round = 1; value = 18446744073709551615 })) ∷ []
unfolding lines_of in_front fields digit_of base_of all_digits value_from value_of complete right all_right values_of line_or line_n line_c line_p line_t line_d line_l line_r letter letter_of by_letter line_of_fields line_of
lines_taken_lem = refl

lines_bad :
    lines_of (
    -- "T TAB 18446744073709551616"
    (84 ∷ 9 ∷ 49 ∷ 56 ∷ 52 ∷ 52 ∷ 54 ∷ 55 ∷ 52 ∷ 52 ∷ 48 ∷ 55 ∷ 51 ∷ 55 ∷ 48 ∷ 57 ∷ 53 ∷ 53 ∷ 49 ∷ 54 ∷ 49 ∷ 54 ∷ [])
    -- ""
    ∷ ([])
    -- "T TAB"
    ∷ (84 ∷ 9 ∷ [])
    -- "T 1"
    ∷ (84 ∷ 32 ∷ 49 ∷ [])
    -- "T TAB +1"
    ∷ (84 ∷ 9 ∷ 43 ∷ 49 ∷ [])
    -- "R CR"
    ∷ (82 ∷ 13 ∷ [])
    -- "R TAB"
    ∷ (82 ∷ 9 ∷ [])
    -- "D TAB 1"
    ∷ (68 ∷ 9 ∷ 49 ∷ [])
    -- "C TAB 2 TAB 0000000F"
    ∷ (67 ∷ 9 ∷ 50 ∷ 9 ∷ 48 ∷ 48 ∷ 48 ∷ 48 ∷ 48 ∷ 48 ∷ 48 ∷ 70 ∷ [])
    -- "C TAB 2 TAB 000000f"
    ∷ (67 ∷ 9 ∷ 50 ∷ 9 ∷ 48 ∷ 48 ∷ 48 ∷ 48 ∷ 48 ∷ 48 ∷ 102 ∷ [])
    -- "P TAB 1 TAB 00000000000000005"
    ∷ (80 ∷ 9 ∷ 49 ∷ 9 ∷ 48 ∷ 48 ∷ 48 ∷ 48 ∷ 48 ∷ 48 ∷ 48 ∷ 48 ∷ 48 ∷ 48 ∷ 48 ∷ 48 ∷ 48 ∷ 48 ∷ 48 ∷ 48 ∷ 53 ∷ [])
    -- "TT TAB 1"
    ∷ (84 ∷ 84 ∷ 9 ∷ 49 ∷ [])
    -- "TAB 1"
    ∷ (9 ∷ 49 ∷ [])
    ∷ []
    )
    ≡ None ∷ None ∷ None ∷ None ∷ None ∷ None ∷ None ∷ None ∷ None ∷ None ∷ None ∷ None ∷ None ∷ []
unfolding lines_of in_front fields digit_of base_of all_digits value_from value_of complete right all_right values_of line_or line_n line_c line_p line_t line_d line_l line_r letter letter_of by_letter line_of_fields line_of
lines_bad = refl

texts :
    ◌≡◌ {A = List (List ℕ)} (
    -- number 1, exit 1, closed, 5 turns, one pack in force (PROTOCOL 15.15)
    result_line 1 1 1 5 (5 ∷ [])
    -- no value in force
    ∷ result_line 4 0 0 12 []
    -- two values, in lower case
    ∷ values_text (10 ∷ 18446744073709551615 ∷ [])
    -- "sent 0"
    ∷ sent_line 0
    -- "sent 40"
    ∷ sent_line 40
    -- the largest line number that fits
    ∷ bad_line 18446744073709551615
    ∷ []
    ) (
    (49 ∷ 9 ∷ 49 ∷ 9 ∷ 49 ∷ 9 ∷ 53 ∷ 9 ∷ 48 ∷ 48 ∷ 48 ∷ 48 ∷ 48 ∷ 48 ∷ 48 ∷ 48 ∷ 48 ∷ 48 ∷ 48 ∷ 48 ∷ 48 ∷ 48 ∷ 48 ∷ 53 ∷ 10 ∷ [])
    ∷ (52 ∷ 9 ∷ 48 ∷ 9 ∷ 48 ∷ 9 ∷ 49 ∷ 50 ∷ 9 ∷ 45 ∷ 10 ∷ [])
    ∷ (48 ∷ 48 ∷ 48 ∷ 48 ∷ 48 ∷ 48 ∷ 48 ∷ 48 ∷ 48 ∷ 48 ∷ 48 ∷ 48 ∷ 48 ∷ 48 ∷ 48 ∷ 97 ∷ 44 ∷ 102 ∷ 102 ∷ 102 ∷ 102 ∷ 102 ∷ 102 ∷ 102 ∷ 102 ∷ 102 ∷ 102 ∷ 102 ∷ 102 ∷ 102 ∷ 102 ∷ 102 ∷ 102 ∷ [])
    ∷ (115 ∷ 101 ∷ 110 ∷ 116 ∷ 9 ∷ 48 ∷ 10 ∷ [])
    ∷ (115 ∷ 101 ∷ 110 ∷ 116 ∷ 9 ∷ 52 ∷ 48 ∷ 10 ∷ [])
    ∷ (98 ∷ 97 ∷ 100 ∷ 9 ∷ 49 ∷ 56 ∷ 52 ∷ 52 ∷ 54 ∷ 55 ∷ 52 ∷ 52 ∷ 48 ∷ 55 ∷ 51 ∷ 55 ∷ 48 ∷ 57 ∷ 53 ∷ 53 ∷ 49 ∷ 54 ∷ 49 ∷ 53 ∷ 10 ∷ [])
    ∷ []
    )
unfolding decimal_in decimal_text hex_text comma_text each_text values_text number_text result_line sent_line bad_line
texts = refl
