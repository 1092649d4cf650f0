-- Reading byte by byte comes to the line of the definition.
use Rattle.std.specs.Prelude.{ℕ, List, ◌≡◌}
use Rattle.drill_lines.specs.Grammar.{line_of}
use Rattle.drill_lines.specs.Automaton.{start, finished, fed_all}

-- the bytes of a line, read one after the other, come to the line of the definition
abbrev pub ReadsLines : Type 0
ReadsLines = (b : List ℕ) → finished (fed_all start b) ≡ line_of b
