-- The world of a machine's session.
use Rattle.std.specs.Prelude.{ℕ, Bool}
use Rattle.calls.specs.Machine.{Machine}
use Rattle.agreement.specs.Evidence.{World}

-- a session, who is honest in it, and the coins of its votes and rounds
abbrev pub world_with : (M : Machine) → M.Session → (ℕ → Bool) → (ℕ → ℕ → Bool) → World
world_with M S H κ = record { settings = M.settings S; honest = H; coin = κ }

-- .. with its printed coins
abbrev pub world : (M : Machine) → M.Session → (ℕ → Bool) → World
world M S H = world_with M S H (M.coin S)
