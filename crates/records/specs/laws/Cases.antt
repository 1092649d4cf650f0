-- The cases of the code.
use Rattle.std.specs.Prelude.{ℕ, ◌+◌, Bool, true, false, ◌||◌, List, ◌≡◌}
use Rattle.std.proofs.Common.{ne_eqb}
use Rattle.records.specs.Words.{marked, set_mark}
use Rattle.records.specs.Records.{coin, printed, coin_recorded, coin_known}
use Rattle.records.specs.Writing.{with_decision}

module _ (s : List ℕ) (i r : ℕ) (b : Bool) (e : b ≡ printed s) where
  pub known_printed : b ≡ true → true ≡ coin_known s i r
  unfolding coin_known
  known_printed t = rw (← e, t)

  pub known_recorded : (c z : Bool) → b ≡ false → c ≡ coin s i r → z ≡ marked s (7 + i) (32 + r) → c || z ≡ coin_known s i r
  unfolding coin_known coin_recorded
  known_recorded c z t f g = rw (← e, t, f, g)

pub ruleset known_cases = (known_printed, known_recorded)

module _ (s t : List ℕ) (i b : ℕ) where
  pub decided_zero_lem : b ≡ 0 → t ≡ set_mark s 138 i → t ≡ with_decision s i b
  decided_zero_lem z f = rw z f

  pub decided_one_lem : (b ≡ 0 → ⊥) → t ≡ set_mark s 139 i → t ≡ with_decision s i b
  decided_one_lem z f = rw (ne_eqb b 0 z) f

pub ruleset decision_cases = (decided_zero_lem, decided_one_lem)
