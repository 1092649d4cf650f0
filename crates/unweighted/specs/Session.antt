-- When a lent buffer holds a state: the refusal 9, NO STATE (PROTOCOL 9.6).
use Rattle.std.specs.Prelude.{ℕ, ◌%◌, ◌^◌, Bool, ◌&&◌, List, length, eqb, leb}
use Rattle.records.specs.Layout.{state_words, n_at, ta_at, ts_at, own_at, session_at, turns_at, boxed_at}
use Rattle.settings.specs.Versions.{version_known}
use Rattle.records.specs.Records.{version}
use Rattle.records.specs.Words.{word}
use Rattle.session.specs.Session.{numbered, rounds_right, commits_right}
use Rattle.unweighted.specs.Settings.{Settings, valid_settings, turn_bound}

unfoldable pub settings_of : List ℕ → Settings
settings_of s = record { n = word s n_at; ta = word s ta_at; ts = word s ts_at }

-- the session number has 32 bits
unfoldable pub session_number : List ℕ → ℕ
session_number s = word s session_at % 2 ^ 32

-- the stored numbers beside the settings: own number, kind of coins, version, turns within its turn bound, rounds and COMMITs (PROTOCOL 9.6)
unfoldable pub numbers_right : Settings → List ℕ → Bool
numbers_right g s =
    numbered g.n (word s own_at) && leb (word s boxed_at) 1 && version_known (version s) && leb (word s turns_at) (turn_bound (version s) g) && rounds_right s g.n && commits_right s g.n

-- what makes words a state: how many they are, settings within the rules, where 255 is no ta, and the other stored numbers (PROTOCOL 9.6)
unfoldable pub is_state : List ℕ → Bool
is_state s =
    eqb (length s) state_words && valid_settings (word s n_at) (word s ta_at) (word s ts_at) && numbers_right (settings_of s) s
