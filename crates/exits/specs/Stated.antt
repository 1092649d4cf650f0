-- The exit that an answer of the code states.
use Rattle.std.specs.Prelude.{◌≤◌, ◌≡◌, length}
use Rattle.exits.specs.declared.Named.{Named}
use Rattle.exits.specs.Exits.{Exit, named}

-- the answer states the exit: its number, and as many values as it counts
pub record Stated (r : Named) (x : Exit) : Type 0 where
  pub states : named r ≡ x
  pub sized : length x.names ≡ r.count
  pub few : r.count ≤ 16
