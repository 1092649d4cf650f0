-- A drill over the bytes of its input.
use Rattle.std.specs.Prelude.{ℕ, ◌+◌, ◌%◌, ◌^◌, true, false, cond, List, [], ◌∷◌, ◌==◌}
use Rattle.records.specs.Words.{blank}
use Rattle.text.specs.Fields.{LF}
use Rattle.drill_core.specs.Judging.{is_bad}
use Rattle.drill_core.specs.Preparing.{none_given}
use Rattle.drill_core.specs.Acting.{begun, World, world, taken}
use Rattle.drill_core.specs.declared.Phase.{Phase}
use Rattle.drill_core.specs.declared.State.{State}
use Rattle.drill_core.specs.declared.Drill.{Drill}
use Rattle.drill_lines.specs.Automaton as lines
use Rattle.drill_core.specs.declared.Phase.TheVariants as phase

-- before the input: line 1 is read next
unfoldable pub start_drill : Drill
start_drill = record {
  state = record { phase = phase.First; given = none_given; counts = record { sent = 0; offered = 0 } };
  number = 1;
  begun = false;
  reader = lines.start;
}

-- the number of the line read next, below 2^64; that of a bad line stays, since only it is printed then (PROTOCOL 15.16)
unfoldable pub next_number : Phase → ℕ → ℕ
next_number x number = cond (is_bad x) number ((number + 1) % 2 ^ 64)

-- before the next line
unfoldable pub next_line : State → ℕ → Drill
next_line s number = record { state = s; number = next_number s.phase number; begun = false; reader = lines.start }

-- a byte of a line
unfoldable pub with_byte : Drill → ℕ → Drill
with_byte d c = record { state = d.state; number = d.number; begun = true; reader = lines.fed d.reader c }

-- a drill with the words of its sessions and the bytes of its messages
pub data Drilling : Type 0 where
  drilling : (words store : List ℕ) (drill : Drill) → Drilling

unfoldable pub words_of : Drilling → List ℕ
words_of (drilling w m d) = w

unfoldable pub store_of : Drilling → List ℕ
store_of (drilling w m d) = m

unfoldable pub settled : ℕ → World → Drilling
settled number (world w m s) = drilling w m (next_line s number)

-- the line is over, and is taken
unfoldable pub ended : Drilling → Drilling
ended (drilling w m d) = settled d.number (taken (lines.finished d.reader) (world w m d.state))

-- one byte more; nothing after a line that cannot be taken is read (PROTOCOL 15.16)
unfoldable pub fed_byte : Drilling → ℕ → Drilling
fed_byte (drilling w m d) c =
    cond (is_bad d.state.phase) (drilling w m d)
    (cond (c == LF) (ended (drilling w m d))
    (drilling w m (with_byte d c)))

unfoldable pub fed_bytes : Drilling → List ℕ → Drilling
fed_bytes x [] = x
fed_bytes x (c ∷ b) = fed_bytes (fed_byte x c) b

-- a last line without LF is a line
unfoldable pub last_line : Drilling → Drilling
last_line (drilling w m d) = cond d.begun (ended (drilling w m d)) (drilling w m d)

-- the sessions are opened where no line but N, C and P came
unfoldable pub all_open : Drilling → Drilling
all_open (drilling w m d) = drilling (begun d.state.phase d.state.given w) m d

-- the input is over: what is left behind the last LF is a line, and the sessions are opened now at the latest (PROTOCOL 15.1, 15.11)
unfoldable pub at_end : Drilling → Drilling
at_end x = all_open (last_line x)

-- the memory is blank: four states, and room for 1,600 messages
unfoldable pub start_drilling : Drilling
start_drilling = drilling (blank 8192) (blank 70496) start_drill
