-- The order of the rules, with ta = 1: in most rows two acts are due, and the earlier one is named.
use Rattle.std.specs.Prelude.{List, [], ◌∷◌}
use Rattle.acts.specs.declared.Act.TheVariants as act
use Rattle.wire.specs.declared.Message.TheVariants.{Send, Echo, Est}
use Rattle.turn_table.specs.Planting.{Fact, two, three, from, commits, did, is_decided, output5, decided_three, Row, row, later_row}

-- Exit 1: three broadcasts have output 5. The AUX of vote 1 would be due, and the start of votes 2 and 3.
unfoldable pub exit1 : List Fact → List Fact
exit1 fs = did (act.Start 1 1) ∷ from (1 ∷ 2 ∷ 3 ∷ []) (Est 1 1 1) ∷ output5 1 (output5 2 (output5 3 fs))

-- Exit 2: votes 1 to 3 are decided 1, vote 4 is decided 0, and two broadcasts have output 5. The AUX of vote 4 would be due.
unfoldable pub exit2 : List Fact → List Fact
exit2 fs = did (act.Start 4 0) ∷ from three (Est 4 1 0) ∷ is_decided 4 0 ∷ decided_three 1 (output5 1 (output5 2 fs))

unfoldable pub order_rows : List Row
order_rows =
    -- in force before COMMIT: three COMMITs hold one set, and for the own COMMIT two are enough
    row act.InForce (commits three (6 ∷ []) ∷ [])
    -- COMMIT before SEND
    ∷ row (act.Commit 2) (commits two (6 ∷ 7 ∷ []) ∷ [])
    -- SEND before ECHO, and SEND is of the own input
    ∷ row (act.Send 5) (from (2 ∷ []) (Send 2 6) ∷ [])
    -- ECHO before READY, whose instance is lower
    ∷ later_row (act.Echo 2 6) (from (2 ∷ []) (Send 2 6) ∷ from three (Echo 1 5) ∷ [])
    -- READY before a vote, whose instance is lower
    ∷ later_row (act.Ready 2 6) (from three (Echo 2 6) ∷ output5 1 [])
    -- a vote
    ∷ later_row (act.Start 1 1) (output5 1 [])
    -- COMMIT, SEND, ECHO and READY are sent once
    ∷ row (act.Send 5) (commits two (6 ∷ []) ∷ did (act.Commit 1) ∷ [])
    ∷ later_row act.Idle (from (2 ∷ []) (Send 2 6) ∷ did (act.Echo 2 6) ∷ [])
    ∷ later_row act.Idle (from three (Echo 1 5) ∷ did (act.Ready 1 5) ∷ [])
    -- lower instances first: of two ECHOs, two READYs, and the AUX of vote 1 before the start of vote 2
    ∷ later_row (act.Echo 2 6) (from (3 ∷ []) (Send 3 7) ∷ from (2 ∷ []) (Send 2 6) ∷ [])
    ∷ later_row (act.Ready 2 6) (from (1 ∷ 2 ∷ 3 ∷ []) (Echo 3 7) ∷ from three (Echo 2 6) ∷ [])
    ∷ later_row (act.Aux 1 1 1) (did (act.Start 1 1) ∷ from (1 ∷ 2 ∷ 3 ∷ []) (Est 1 1 1) ∷ output5 2 [])
    -- where Exit 1 holds while votes are open: its COMMIT, and after that nothing
    ∷ later_row (act.Commit 1) (exit1 [])
    ∷ later_row act.Idle (did (act.Commit 1) ∷ exit1 [])
    -- Exit 2 does not end the votes, and two outputs are no exit
    ∷ later_row (act.Commit 1) (exit2 [])
    ∷ later_row (act.Aux 4 1 0) (did (act.Commit 1) ∷ exit2 [])
    ∷ later_row (act.Start 1 1) (did (act.Commit 1) ∷ output5 1 (output5 2 []))
    ∷ []
