-- The answers of the calendar, path by path, and what its minute is.
use Rattle.std.specs.Prelude.{ℕ, ◌+◌, ◌*◌, ◌%◌, ◌≤◌, ◌<◌, false, ◌&&◌, List, ◌⊎◌, ◌≡◌, Option, Some, None, Ok, Err}
use Rattle.std.proofs.Math.Bool.{true, and-false}
use Rattle.std.proofs.Common.{inl, inr, sym, ◌∙◌, Fits}
use native.Mathlib.Omega.{arith}
use Rattle.std.proofs.Math.Dec.{leb}
use Rattle.std.proofs.Math.ListN.{length}
use Rattle.std.specs.Int.{w64}
use borrow.Author.Tests.{le-leb, lt-leb}
use Rattle.settings.specs.declared.refusal.Refusal.TheVariants as refusal
use Rattle.calendar.specs.Calendar.{week_minutes, max_windows, max_closing, max_lead, windows_right, in_window, allowed, taken, start_minute, start_of}
use Rattle.calendar.specs.laws.Search.{nearest_from}
use Rattle.calendar.specs.laws.Found.{Found, found, not_found, first_at}

module _ (ws : List ℕ) (c l : ℕ) where
  pub no_window : length ws ≡ 0 → Err refusal.Windows ≡ start_of ws c l
  unfolding start_of taken
  no_window e = rw e

  pub many_windows : 2 * max_windows < length ws → Err refusal.Windows ≡ start_of ws c l
  unfolding start_of taken
  many_windows h = rw (lt-leb (length ws) (2 * max_windows) h, and-false (leb 1 (length ws)))

  pub closing_late : max_closing < c → Err refusal.Windows ≡ start_of ws c l
  unfolding start_of taken
  closing_late h = rw (lt-leb c max_closing h, and-false (leb 1 (length ws) && leb (length ws) (2 * max_windows) && windows_right ws))

  pub lead_long : max_lead < l → Err refusal.Windows ≡ start_of ws c l
  unfolding start_of taken
  lead_long h =
      rw (lt-leb l max_lead h, and-false (leb 1 (length ws) && leb (length ws) (2 * max_windows) && windows_right ws && leb c max_closing))

  pub window_wrong : (x : Option ℕ) → x ≡ nearest_from week_minutes ws ((c + l) % week_minutes) → x ≡ None → Err refusal.Windows ≡ start_of ws c l
  unfolding start_of taken
  window_wrong x e t =
      rw (not_found ws week_minutes ((c + l) % week_minutes) (sym e ∙ t), and-false (leb 1 (length ws) && leb (length ws) (2 * max_windows)))

  -- the minutes of the search are those of the week from closing and lead on
  module _ (d : ℕ) (some : 1 ≤ length ws) (f : Found week_minutes ws ((c + l) % week_minutes) d) where
    around : (j : ℕ) → (c + l + j) % week_minutes ≡ ((c + l) % week_minutes + j) % week_minutes
    around j = omega arith

    pub hit : allowed ws (c + l + d) ≡ true
    unfolding allowed
    hit = go f.hit
      where
        go : (d ≡ week_minutes) ⊎ (in_window ws (((c + l) % week_minutes + d) % week_minutes) ≡ true) → in_window ws ((c + l + d) % week_minutes) ≡ true
        go (inl h) = absurd (omega (arith, h, f.below some))
        go (inr h) = rw (around d) h

    pub missed : (j : ℕ) → j < d → allowed ws (c + l + j) ≡ false
    unfolding allowed
    missed j h = rw (around j) (f.none j h)

    pub at_distance : start_minute ws c l ≡ c + l + d
    unfolding start_minute
    at_distance = first_at (allowed ws) d (c + l) week_minutes (f.below some) hit missed

  pub minute_found : (x : Option ℕ) (d : ℕ) → (length ws ≡ 0 → ⊥) → length ws ≤ 2 * max_windows → c ≤ max_closing → l ≤ max_lead → x ≡ nearest_from week_minutes ws ((c + l) % week_minutes) → x ≡ Some d → Ok (c + l + d) ≡ start_of ws c l
  unfolding start_of taken
  minute_found x d n many late long e t =
      let some : 1 ≤ length ws = omega (arith, n) in
      let low : (c + l) % week_minutes < week_minutes = omega arith in
      let f : Found week_minutes ws ((c + l) % week_minutes) d = found ws week_minutes ((c + l) % week_minutes) d low (sym e ∙ t) in
      rw (le-leb 1 (length ws) some, le-leb (length ws) (2 * max_windows) many, f.right, le-leb c max_closing late, le-leb l max_lead long, at_distance d some f)

  pub minute_fits : (x : Option ℕ) (d : ℕ) → c ≤ max_closing → l ≤ max_lead → x ≡ nearest_from week_minutes ws ((c + l) % week_minutes) → x ≡ Some d → Fits w64 (c + l + d)
  minute_fits x d late long e t =
      let low : (c + l) % week_minutes < week_minutes = omega arith in
      omega (arith, (found ws week_minutes ((c + l) % week_minutes) d low (sym e ∙ t)).within)

pub ruleset starts = (no_window, many_windows, closing_late, lead_long, window_wrong, minute_found)
