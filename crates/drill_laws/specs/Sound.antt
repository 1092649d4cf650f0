-- The turns that the sessions of a drill have counted.
use Rattle.std.specs.Prelude.{ℕ, zero, suc, ◌+◌, List}
use Rattle.records.specs.Layout.{turns_at}
use Rattle.records.specs.Words.{word}
use Rattle.drill_feeder.specs.Parts.{state_of}

-- the turns that session p has counted, and those of the sessions 1 to n
unfoldable pub turns_of : List ℕ → ℕ → ℕ
turns_of w p = word (state_of w p) turns_at

unfoldable pub all_turns : List ℕ → ℕ → ℕ
all_turns w zero = 0
all_turns w (suc n) = all_turns w n + turns_of w (suc n)
