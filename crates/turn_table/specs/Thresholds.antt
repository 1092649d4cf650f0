-- The same with ta = 0 and ts = 1: votes go by ta, broadcasts and COMMITs by ts.
use Rattle.std.specs.Prelude.{List, [], ◌∷◌}
use Rattle.acts.specs.declared.Act.TheVariants as act
use Rattle.acts.specs.declared.View.TheVariants.{Only}
use Rattle.wire.specs.declared.Message.TheVariants.{Echo, Ready, Est, Aux}
use Rattle.turn_table.specs.Planting.{two, three, from, commits, did, output5, decided_three, Row, row, later_row}

unfoldable pub threshold_rows : List Row
threshold_rows =
    -- n − ts, which is 3: COMMITs in force, ECHOs for a READY, READYs for an output
    row act.InForce (commits three (6 ∷ []) ∷ [])
    ∷ later_row (act.Ready 1 6) (from three (Echo 1 6) ∷ [])
    ∷ later_row (act.Start 1 1) (output5 1 [])
    -- ts + 1, which is 2: COMMITs and READYs that are repeated
    ∷ row (act.Commit 1) (commits two (6 ∷ []) ∷ [])
    ∷ row (act.Send 5) (commits (2 ∷ []) (6 ∷ []) ∷ [])
    ∷ later_row (act.Ready 1 6) (from two (Ready 1 6) ∷ [])
    ∷ later_row act.Idle (from (2 ∷ []) (Ready 1 6) ∷ [])
    -- ta + 1 and 2·ta + 1, which are 1: ESTs that are relayed, and accepted
    ∷ later_row (act.Relay 1 1 0) (did (act.Start 1 1) ∷ from (2 ∷ []) (Est 1 1 0) ∷ [])
    ∷ later_row (act.Aux 1 1 1) (did (act.Start 1 1) ∷ from (2 ∷ []) (Est 1 1 1) ∷ [])
    -- n − ta, which is 4: AUXs for a move, votes decided 1 for a start with 0
    ∷ later_row (act.Move 1 1 (Only 1)) (did (act.Start 1 1) ∷ did (act.Aux 1 1 1) ∷ from (2 ∷ []) (Est 1 1 1) ∷ from (1 ∷ 2 ∷ 3 ∷ 4 ∷ []) (Aux 1 1 1) ∷ [])
    ∷ later_row act.Idle (did (act.Start 1 1) ∷ did (act.Aux 1 1 1) ∷ from (2 ∷ []) (Est 1 1 1) ∷ from three (Aux 1 1 1) ∷ [])
    ∷ later_row act.Idle (decided_three 1 [])
    ∷ []
