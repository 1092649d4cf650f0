-- What the start minute is among the minutes from closing and lead on: PROTOCOL 18.5.
use Rattle.std.specs.Prelude.{ℕ, ◌+◌, ◌≤◌, ◌<◌, true, false, List, ◌≡◌}
use Rattle.calendar.specs.Calendar.{week_minutes, allowed, taken, start_minute}

-- it lies in a window, none before it does, and it is less than a week away
pub record First (windows : List ℕ) (from minute : ℕ) : Type 0 where
  pub not_before : from ≤ minute
  pub within_week : minute < from + week_minutes
  pub lies : allowed windows minute ≡ true
  pub none_before : (x : ℕ) → from ≤ x → x < minute → allowed windows x ≡ false

-- so for every list, closing minute and lead that are taken
unfoldable pub FirstInWindow : Type 0
FirstInWindow =
    (windows : List ℕ) (closing lead : ℕ) → taken windows closing lead ≡ true → First windows (closing + lead) (start_minute windows closing lead)
