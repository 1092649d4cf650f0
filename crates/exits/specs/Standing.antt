-- The exits of what stands at one concentrator.
use Rattle.std.specs.Prelude.{ℕ, Bool, Option}
use Rattle.settings.specs.declared.Settings.{Settings}
use Rattle.exits.specs.Exits.{Exit, exit_of}

-- the outputs and the decisions at one concentrator
pub record Standing : Type 0 where
  pub out : ℕ → Option ℕ
  pub as0 : ℕ → Bool
  pub as1 : ℕ → Bool

abbrev pub exit_at : Settings → Standing → Exit
exit_at g s = exit_of g s.out s.as0 s.as1
