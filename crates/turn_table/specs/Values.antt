-- Which value a READY carries, and which set a COMMIT, with ta = 1.
use Rattle.std.specs.Prelude.{ℕ, List, [], ◌∷◌}
use Rattle.acts.specs.declared.Act.TheVariants as act
use Rattle.wire.specs.declared.Message.TheVariants.{Echo, Ready}
use Rattle.turn.specs.Due.{commit_due}
use Rattle.turn_table.specs.Planting.{Fact, four, planted, two, three, from, commits, Row, later_row}
use Rattle.turn_table.specs.Order.{exit1}

unfoldable pub ready_rows : List Row
ready_rows =
    -- a value that three ECHOs hold, before one that two READYs hold
    later_row (act.Ready 1 7) (from (1 ∷ 2 ∷ []) (Ready 1 6) ∷ from three (Echo 1 7) ∷ [])
    -- two READYs are enough; of two such values that of the lowest sender, be it the larger or the smaller
    ∷ later_row (act.Ready 1 7) (from two (Ready 1 6) ∷ from (1 ∷ 4 ∷ []) (Ready 1 7) ∷ [])
    ∷ later_row (act.Ready 1 6) (from two (Ready 1 7) ∷ from (1 ∷ 4 ∷ []) (Ready 1 6) ∷ [])
    -- two ECHOs and one READY are too few, and so are three ECHOs of two values
    ∷ later_row act.Idle (from two (Echo 1 6) ∷ from (4 ∷ []) (Ready 1 6) ∷ [])
    ∷ later_row act.Idle (from two (Echo 1 6) ∷ from (4 ∷ []) (Echo 1 7) ∷ [])
    ∷ []

-- a state, and the set that is due there, [] for none
pub record SetRow : Type 0 where
  pub facts : List Fact
  pub set : List ℕ

unfoldable pub set_row : List ℕ → List Fact → SetRow
set_row xs fs = record { facts = fs; set = xs }

unfoldable pub sets : List SetRow → List (List ℕ)
sets [] = []
sets (r ∷ rs) = r.set ∷ sets rs

unfoldable pub due_sets : ℕ → List SetRow → List (List ℕ)
due_sets ta [] = []
due_sets ta (r ∷ rs) = commit_due (four ta) (planted ta r.facts) ∷ due_sets ta rs

unfoldable pub set_rows : List SetRow
set_rows =
    -- the set that the exits name, before one that two COMMITs hold
    set_row (5 ∷ []) (commits (1 ∷ 2 ∷ []) (6 ∷ 7 ∷ []) ∷ exit1 [])
    -- of two sets that two COMMITs hold, that of the lowest sender
    ∷ set_row (6 ∷ 7 ∷ []) (commits two (5 ∷ []) ∷ commits (1 ∷ 4 ∷ []) (6 ∷ 7 ∷ []) ∷ [])
    ∷ set_row (5 ∷ []) (commits two (6 ∷ 7 ∷ []) ∷ commits (1 ∷ 4 ∷ []) (5 ∷ []) ∷ [])
    -- .. and not a set that a lower sender alone holds
    ∷ set_row (5 ∷ []) (commits (1 ∷ []) (6 ∷ []) ∷ commits (2 ∷ 4 ∷ []) (5 ∷ []) ∷ [])
    -- sets that differ in one value are two
    ∷ set_row [] (commits (1 ∷ []) (5 ∷ 6 ∷ []) ∷ commits (2 ∷ []) (5 ∷ 7 ∷ []) ∷ commits (3 ∷ []) (5 ∷ []) ∷ [])
    ∷ []
