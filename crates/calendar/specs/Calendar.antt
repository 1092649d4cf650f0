-- In-force windows: PROTOCOL, section 18.
use Rattle.std.specs.Prelude.{ℕ, zero, suc, ◌+◌, ◌*◌, ◌%◌, Bool, true, false, ◌&&◌, ◌||◌, cond, List, [], ◌∷◌, leb, ltb, length, Result, Ok, Err}
use Rattle.settings.specs.declared.refusal.Refusal.TheVariants as refusal
use Rattle.settings.specs.declared.refusal.Refusal.{Refusal}

-- 7 days of 24 hours of 60 minutes (PROTOCOL 18.1)
abbrev pub week_minutes : ℕ
week_minutes = 10080

abbrev pub max_windows : ℕ
max_windows = 16

abbrev pub max_closing : ℕ
max_closing = 4000000000

abbrev pub max_lead : ℕ
max_lead = week_minutes

-- a window ends after its first minute and within the week (PROTOCOL 18.2)
unfoldable pub window_right : ℕ → ℕ → Bool
window_right first end = ltb first end && leb end week_minutes

-- windows are given as first and end, first and end (PROTOCOL 18.3)
unfoldable pub windows_right : List ℕ → Bool
windows_right [] = true
windows_right (first ∷ []) = false
windows_right (first ∷ end ∷ rest) = window_right first end && windows_right rest

-- whether a minute of the week lies in a window: the end is outside (PROTOCOL 18.2)
unfoldable pub in_window : List ℕ → ℕ → Bool
in_window [] m = false
in_window (first ∷ []) m = false
in_window (first ∷ end ∷ rest) m = leb first m && ltb m end || in_window rest m

-- both counts start with a Monday 00:00 (PROTOCOL 18.1)
unfoldable pub allowed : List ℕ → ℕ → Bool
allowed windows m = in_window windows (m % week_minutes)

-- the first of k minutes from m on of which p is true, and the one behind them where there is none
unfoldable pub first_of : (ℕ → Bool) → ℕ → ℕ → ℕ
first_of p m zero = m
first_of p m (suc k) = cond (p m) m (first_of p (m + 1) k)

-- what the calendar takes (PROTOCOL 18.4)
unfoldable pub taken : List ℕ → ℕ → ℕ → Bool
taken windows closing lead =
    leb 1 (length windows) && leb (length windows) (2 * max_windows) && windows_right windows && leb closing max_closing && leb lead max_lead

-- the smallest minute in a window that is not before closing and lead together: a week is searched (PROTOCOL 18.5)
unfoldable pub start_minute : List ℕ → ℕ → ℕ → ℕ
start_minute windows closing lead = first_of (allowed windows) (closing + lead) week_minutes

unfoldable pub start_of : List ℕ → ℕ → ℕ → Result ℕ Refusal
start_of windows closing lead = cond (taken windows closing lead) (Ok (start_minute windows closing lead)) (Err refusal.Windows)
