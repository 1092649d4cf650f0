-- How many senders are held, as the code counts them.
use Rattle.std.specs.Prelude.{ℕ, List}
use Rattle.settings.specs.Settings.{weighed}
use Rattle.settings.specs.declared.Settings.{Settings}
use Rattle.records.specs.Words.{marked}

-- the weight of the senders that have their mark in word k
unfoldable pub held_count : Settings → List ℕ → ℕ → ℕ
held_count g s k = weighed g (marked s k)
