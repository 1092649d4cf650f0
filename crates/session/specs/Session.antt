-- When a lent buffer holds a state: the refusal 9, NO STATE (PROTOCOL 9.6).
use Rattle.std.specs.Prelude.{ℕ, ◌%◌, ◌^◌, Bool, ◌&&◌, cond, List, length, eqb, leb, Option, Some, None}
use Rattle.settings.specs.Settings.{valid_settings, settings_from, moved_out_round}
use Rattle.settings.specs.Versions.{version_known, turn_bound}
use Rattle.settings.specs.declared.Settings.{Settings}
use Rattle.quorum.specs.Every.{every}
use Rattle.records.specs.Layout.{state_words, n_at, ta_at, ts_at, own_at, session_at, weights_at, boxed_at, turns_at, round_at, commit_count_at}
use Rattle.records.specs.Records.{version}
use Rattle.records.specs.Words.{word}
use Rattle.session.specs.declared.Session.{Session}

-- a number is 1 to n, as the own number is (PROTOCOL 1.8)
unfoldable pub numbered : ℕ → ℕ → Bool
numbered n own = leb 1 own && leb own n

-- the rounds of votes 1 to n are at most 33 (PROTOCOL 9.6)
unfoldable pub rounds_right : List ℕ → ℕ → Bool
rounds_right s n = every (λ i. leb (word s (round_at i)) moved_out_round) n

-- the COMMITs of senders 1 to n have at most n values (PROTOCOL 9.6)
unfoldable pub commits_right : List ℕ → ℕ → Bool
commits_right s n = every (λ p. leb (word s (commit_count_at p)) n) n

-- the stored numbers beside n, ta, ts and the weights: own number, kind of coins, version, turns within its turn bound, rounds and COMMITs
-- (PROTOCOL 9.6)
unfoldable pub numbers_right : Settings → List ℕ → Bool
numbers_right g s =
    numbered g.n (word s own_at) && leb (word s boxed_at) 1 && version_known (version s) && leb (word s turns_at) (turn_bound (version s) g) && rounds_right s g.n && commits_right s g.n

unfoldable pub settings_of : List ℕ → Settings
settings_of s = settings_from (word s n_at) (word s ta_at) (word s ts_at) (word s weights_at)

-- what makes words a state: how many they are, settings within the rules, where 255 is no ta, and the other stored numbers (PROTOCOL 9.6)
unfoldable pub is_state : List ℕ → Bool
is_state s =
    eqb (length s) state_words && valid_settings (word s n_at) (word s ta_at) (word s ts_at) (word s weights_at) && numbers_right (settings_of s) s

-- what is read of a state once; the session number has 32 bits
unfoldable pub session_with : Settings → List ℕ → Session
session_with g s = record { settings = g; own = word s own_at; number = word s session_at % 2 ^ 32 }

unfoldable pub session_of : List ℕ → Session
session_of s = session_with (settings_of s) s

unfoldable pub stored : List ℕ → Option Session
stored s = cond (is_state s) (Some (session_of s)) None
