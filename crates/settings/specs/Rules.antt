-- What settings must meet, as a statement.
use Rattle.std.specs.Prelude.{ℕ, ◌+◌, ◌*◌, ◌<◌, ◌≤◌, ◌≡◌, true}
use Rattle.quorum.specs.Whole.{whole_of, weights_right}
use Rattle.settings.specs.Settings.{max_concentrators}
use Rattle.settings.specs.declared.Settings.{Settings}

-- the rules as facts
pub record Rules (n ta ts whole weights : ℕ) : Type 0 where
  pub some : 1 ≤ n
  pub few : n ≤ max_concentrators
  pub right : weights_right weights n ≡ true
  pub sum : whole ≡ whole_of weights n
  pub ordered : ta ≤ ts
  pub margin : 2 * ts + ta < whole

-- settings within the rules
abbrev pub Ruled : Settings → Type 0
Ruled g = Rules g.n g.ta g.ts g.whole g.weights
