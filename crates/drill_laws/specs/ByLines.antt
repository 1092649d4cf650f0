-- The drill line by line: its output is that of the lines of its input, taken one after the other.
use Rattle.std.specs.Prelude.{ℕ, Bool, true, false, cond, List, [], ◌∷◌, ◌++◌, ◌≡◌, eqb}
use Rattle.records.specs.Words.{blank}
use Rattle.drill_lines.specs.Grammar.{line_of}
use Rattle.text.specs.Fields.{LF}
use Rattle.drill_lines.specs.Text.{bad_line}
use Rattle.drill_core.specs.Judging.{is_bad, after_settings}
use Rattle.drill_core.specs.Acting.{begun, World, world, taken}
use Rattle.drill_core.specs.Feeding.{start_drill, next_number}
use Rattle.drill_core.specs.Output.{summary, drill_output}

-- whether a line has a byte
unfoldable pub began : List ℕ → Bool
began [] = false
began (c ∷ a) = true

-- the lines of an input, after the bytes a of a line: LF ends a line, and a last one without LF is a line
unfoldable pub lines_from : List ℕ → List ℕ → List (List ℕ)
lines_from a [] = cond (began a) (a ∷ []) []
lines_from a (c ∷ b) = cond (eqb c LF) (a ∷ lines_from [] b) (lines_from (a ++ (c ∷ [])) b)

unfoldable pub lines_of : List ℕ → List (List ℕ)
lines_of b = lines_from [] b

-- a drill between two lines: the number of the next, and what the lines have led to
pub data Between : Type 0 where
  between : (number : ℕ) (x : World) → Between

unfoldable pub after : ℕ → World → Between
after n (world w m s) = between (next_number s.phase n) (world w m s)

-- one line more; one that cannot be taken ends it
unfoldable pub line_taken : Between → List ℕ → Between
line_taken (between n (world w m s)) b = cond (is_bad s.phase) (between n (world w m s)) (after n (taken (line_of b) (world w m s)))

unfoldable pub lines_taken : Between → List (List ℕ) → Between
lines_taken x [] = x
lines_taken x (b ∷ bs) = lines_taken (line_taken x b) bs

-- what is printed after the last line
unfoldable pub output_after : Between → List ℕ
output_after (between n (world w m s)) =
    cond (after_settings s.phase) (summary s.given.members s.counts.sent (begun s.phase s.given w)) (bad_line n)

unfoldable pub start_between : Between
start_between = between 1 (world (blank 8192) (blank 70496) start_drill.state)

unfoldable pub ByLines : Type 0
ByLines = (input : List ℕ) → drill_output input ≡ output_after (lines_taken start_between (lines_of input))
