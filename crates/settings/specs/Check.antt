-- The check of settings.
use Rattle.std.specs.Prelude.{ℕ, cond, Option, Some, None}
use Rattle.settings.specs.Settings.{valid_settings, settings_from}
use Rattle.settings.specs.declared.Settings.{Settings}

-- settings within the rules; ta is taken as it is, so that a stored 255 is refused
unfoldable pub check_settings : ℕ → ℕ → ℕ → ℕ → Option Settings
check_settings n ta ts w = cond (valid_settings n ta ts w) (Some (settings_from n ta ts w)) None
