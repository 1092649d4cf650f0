-- The table by computing both sides of each group of rows.
use Rattle.std.specs.Prelude.{refl}
use Rattle.turn_bound.proofs.laws.Computing.{calls}
use Rattle.turn_table.specs.Planting.{opened_state, recorded_from, with_fact, with_facts, planted, output5, decided_three, row, later_row, finish_row, acts, due_acts}
use Rattle.turn_table.specs.Order.{exit1, exit2, order_rows}
use Rattle.turn_table.specs.Values.{ready_rows, set_row, set_rows, sets, due_sets}
use Rattle.turn_table.specs.Votes.{start_rows, relay_rows, ests, voted, aux_rows, move_rows, last_rows}
use Rattle.turn_table.specs.Moves.{values_if, after_with, after_turn, enters, moves_out, thens, afters, move_row, moved_rows}
use Rattle.turn_table.specs.Finishes.{finish_rows}
use Rattle.turn_table.specs.Thresholds.{threshold_rows}
use Rattle.turn_table.specs.Statement.{TurnTable}

unfoldable rows : Unit {0}
unfolding calls opened_state recorded_from with_fact with_facts planted output5 decided_three row later_row finish_row acts due_acts exit1 exit2 set_row sets due_sets ests voted values_if after_with after_turn enters moves_out thens afters move_row
rows = tt

pub turn_table : TurnTable
unfolding rows order_rows ready_rows set_rows start_rows relay_rows aux_rows move_rows last_rows moved_rows finish_rows threshold_rows
turn_table =
    record {
      order = refl;
      readies = refl;
      commit_sets = refl;
      starts = refl;
      relays = refl;
      auxes = refl;
      moves = refl;
      moved_out = refl;
      after_moves = refl;
      finishes = refl;
      thresholds = refl;
    }
