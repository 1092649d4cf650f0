-- The output of a drill has at most 2,048 bytes, so that as many lent bytes hold all of it.
use Rattle.std.specs.Prelude.{ℕ, ◌≤◌, List, ◌≡◌, length, take}
use Rattle.text.specs.Paste.{Wrote}
use Rattle.drill_core.specs.Output.{drill_output}

-- what is written of the output into 2,048 lent bytes or more is all of it
unfoldable pub OutputWhole : Type 0
OutputWhole = (input out after : List ℕ) (r : ℕ) → 2048 ≤ length out → Wrote (drill_output input) out 0 r after → take r after ≡ drill_output input
