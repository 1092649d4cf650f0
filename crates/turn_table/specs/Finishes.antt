-- FINISHes in a session of version 2, with ta = 1: when one is due, what it carries, and what is due after it.
use Rattle.std.specs.Prelude.{List, [], ◌∷◌}
use Rattle.acts.specs.declared.Act.TheVariants as act
use Rattle.wire.specs.declared.Message.TheVariants.{Est, Finish}
use Rattle.turn_table.specs.Planting.{two, three, from, did, in_round, is_decided, output5, Row, later_row, finish_row}

unfoldable pub finish_rows : List Row
finish_rows =
    -- of a decision, before the start of its vote and after round 32; not in version 1
    finish_row (act.Finish 1 0) (is_decided 1 0 ∷ [])
    ∷ finish_row (act.Finish 1 1) (is_decided 1 1 ∷ in_round 1 33 ∷ [])
    ∷ later_row act.Idle (is_decided 1 0 ∷ [])
    -- without a decision, of a value with two FINISHes, 0 where both have two; one is too few, and two decide nothing
    ∷ finish_row (act.Finish 1 1) (from two (Finish 1 1) ∷ [])
    ∷ finish_row (act.Finish 1 0) (from two (Finish 1 1) ∷ from (1 ∷ 4 ∷ []) (Finish 1 0) ∷ [])
    ∷ finish_row act.Idle (from (2 ∷ []) (Finish 1 1) ∷ from (3 ∷ []) (Finish 1 0) ∷ [])
    ∷ later_row act.Idle (from two (Finish 1 1) ∷ [])
    -- a decision goes before FINISHes of the other value
    ∷ finish_row (act.Finish 1 1) (is_decided 1 1 ∷ from two (Finish 1 0) ∷ [])
    -- .. and stays, though three of them come
    ∷ finish_row (act.Finish 1 1) (is_decided 1 1 ∷ from three (Finish 1 0) ∷ [])
    -- before the start, relays, AUX and move of its vote
    ∷ finish_row (act.Finish 1 1) (from two (Finish 1 1) ∷ output5 1 [])
    ∷ finish_row (act.Finish 1 0) (did (act.Start 1 1) ∷ from two (Est 1 1 0) ∷ from two (Finish 1 0) ∷ [])
    -- .. but after all of a lower one
    ∷ finish_row (act.Relay 1 1 0) (did (act.Start 1 1) ∷ from two (Est 1 1 0) ∷ is_decided 2 1 ∷ [])
    -- once a vote: without a decision it goes on
    ∷ finish_row (act.Start 1 1) (from two (Finish 1 1) ∷ did (act.Finish 1 1) ∷ output5 1 [])
    -- .. and with one, by a move or by three FINISHes, it does nothing more, relays neither
    ∷ finish_row act.Idle (is_decided 1 1 ∷ did (act.Finish 1 1) ∷ did (act.Start 1 1) ∷ from three (Est 1 1 0) ∷ [])
    ∷ finish_row act.Idle (from three (Finish 1 0) ∷ did (act.Finish 1 0) ∷ did (act.Start 1 1) ∷ from three (Est 1 1 0) ∷ [])
    -- .. where two and a decision still missing let it relay
    ∷ finish_row (act.Relay 1 1 0) (from two (Finish 1 0) ∷ did (act.Finish 1 0) ∷ did (act.Start 1 1) ∷ from three (Est 1 1 0) ∷ [])
    ∷ []
