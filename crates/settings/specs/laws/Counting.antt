-- Settings for counting alone: what is counted reads n and the weights, and no threshold.
use Rattle.std.specs.Prelude.{ℕ}
use Rattle.settings.specs.declared.Settings.{Settings}

abbrev pub counting : ℕ → ℕ → Settings
counting n w = record { n = n; ta = 0; ts = 0; whole = 0; weights = w }
