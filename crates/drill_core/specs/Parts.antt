-- The input of a drill may come in parts.
use Rattle.std.specs.Prelude.{◌≡◌, ℕ, List, [], ◌∷◌, ◌++◌}
use Rattle.drill_core.specs.Feeding.{Drilling, fed_bytes, start_drilling, at_end}
use Rattle.drill_core.specs.Output.{printed, drill_output}

unfoldable pub joined : List (List ℕ) → List ℕ
joined [] = []
joined (b ∷ bs) = b ++ joined bs

unfoldable pub fed_parts : Drilling → List (List ℕ) → Drilling
fed_parts x [] = x
fed_parts x (b ∷ bs) = fed_parts (fed_bytes x b) bs

-- whatever parts it comes in, the drill prints the output of the whole input
unfoldable pub PartsJoined : Type 0
PartsJoined = (bs : List (List ℕ)) → printed (at_end (fed_parts start_drilling bs)) ≡ drill_output (joined bs)
