-- How many COMMITs are held, as the code counts them.
use Rattle.std.specs.Prelude.{ℕ, List}
use Rattle.settings.specs.Settings.{weighed}
use Rattle.settings.specs.declared.Settings.{Settings}
use Rattle.commits.specs.Commits.{commit_held}

-- the weight of the senders of whom a COMMIT is held
unfoldable pub commits_held : Settings → List ℕ → ℕ
commits_held g s = weighed g (λ p. commit_held s p)
