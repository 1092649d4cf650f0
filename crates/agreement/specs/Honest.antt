-- Who is honest, and what the others count.
use Rattle.std.specs.Prelude.{ℕ, ◌≤◌, Bool, true, not, ◌≡◌}
use Rattle.settings.specs.Settings.{weighed}
use Rattle.settings.specs.declared.Settings.{Settings}

-- the honest ones, those of H, are chosen freely among the numbers from 1 to n (PROTOCOL 16.4)
pub record Honest (g : Settings) (H : ℕ → Bool) (m : ℕ) : Type 0 where
  pub low : 1 ≤ m
  pub high : m ≤ g.n
  pub fair : H m ≡ true

-- what the liars, who are all the others, weigh (PROTOCOL 1.2)
abbrev pub liars : Settings → (ℕ → Bool) → ℕ
liars g H = weighed g (λ m. not (H m))
