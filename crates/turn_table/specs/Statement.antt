-- The table: in each planted state what the rules say is due, is.
use Rattle.std.specs.Prelude.{◌≡◌}
use Rattle.turn_table.specs.Planting.{acts, due_acts}
use Rattle.turn_table.specs.Order.{order_rows}
use Rattle.turn_table.specs.Values.{ready_rows, set_rows, sets, due_sets}
use Rattle.turn_table.specs.Votes.{start_rows, relay_rows, aux_rows, move_rows, last_rows}
use Rattle.turn_table.specs.Moves.{moved_rows, thens, afters}
use Rattle.turn_table.specs.Finishes.{finish_rows}
use Rattle.turn_table.specs.Thresholds.{threshold_rows}

pub record TurnTable : Type 0 where
  pub order : due_acts 1 order_rows ≡ acts order_rows
  pub readies : due_acts 1 ready_rows ≡ acts ready_rows
  pub commit_sets : due_sets 1 set_rows ≡ sets set_rows
  pub starts : due_acts 1 start_rows ≡ acts start_rows
  pub relays : due_acts 1 relay_rows ≡ acts relay_rows
  pub auxes : due_acts 1 aux_rows ≡ acts aux_rows
  pub moves : due_acts 1 move_rows ≡ acts move_rows
  pub moved_out : due_acts 1 last_rows ≡ acts last_rows
  pub after_moves : afters 1 moved_rows ≡ thens moved_rows
  pub finishes : due_acts 1 finish_rows ≡ acts finish_rows
  pub thresholds : due_acts 0 threshold_rows ≡ acts threshold_rows
