-- A week is a circle: a window's distance from a minute is that to the window's next minute.
use Rattle.std.specs.Prelude.{ℕ, ◌+◌, ◌%◌, ◌≤◌, ◌<◌, Bool, true, false, ◌&&◌, ◌≡◌, leb, ltb}
use Rattle.std.proofs.Math.Bool.{and-false}
use Rattle.std.proofs.Common.{sym, arith, lt-ltb, le-ltb, le-leb}
use Rattle.std.proofs.Math.Decide.{dec_lt}
use Rattle.std.proofs.lemmas.Bool.{lt-leb}
use Rattle.calendar.specs.Calendar.{week_minutes}
use Rattle.calendar.specs.laws.Search.{distance, distance_ahead, distance_inside, distance_next_week}

-- whether minute x of the week lies in the window
abbrev pub lies : ℕ → ℕ → ℕ → Bool
lies f e x = leb f x && ltb x e

lies_in : (f e x : ℕ) → f ≤ x → x < e → lies f e x ≡ true
lies_in f e x l h = rw (le-leb f x l, lt-ltb x e h)

lies_before : (f e x : ℕ) → x < f → lies f e x ≡ false
lies_before f e x h = rw (lt-leb f x h)

lies_behind : (f e x : ℕ) → e ≤ x → lies f e x ≡ false
lies_behind f e x h = rw (le-ltb x e h) (and-false (leb f x))

-- minute m of the week is before the window, in it, or behind it
data Case (f e m : ℕ) : Type 0 where
  ahead : m < f → m + distance f e m ≡ f → Case f e m
  inside : f ≤ m → m < e → distance f e m ≡ 0 → Case f e m
  behind : e ≤ m → m + distance f e m ≡ week_minutes + f → Case f e m

case_of : (f e m : ℕ) → f < e → m < week_minutes → Case f e m
case_of f e m rising low = go (dec_lt m f) (dec_lt m e)
  where
    go : Dec (m < f) → Dec (m < e) → Case f e m
    go (yes a) b = ahead a (omega (arith, distance_ahead f e m a))
    go (no a) (yes b) = let l : f ≤ m = omega (arith, a) in inside l b (sym (distance_inside f e m l b))
    go (no a) (no b) =
        let l : f ≤ m = omega (arith, a) in
        let h : e ≤ m = omega (arith, b) in
        behind h (omega (arith, distance_next_week f e m l h))

module _ (f e m : ℕ) (rising : f < e) (high : e ≤ week_minutes) (low : m < week_minutes) where
  -- each week has a minute of the window
  pub distance_below : distance f e m < week_minutes
  distance_below = go (case_of f e m rising low)
    where
      go : Case f e m → distance f e m < week_minutes
      go (ahead a d) = omega arith
      go (inside a b d) = omega arith
      go (behind b d) = omega arith

  pub distance_lies : lies f e ((m + distance f e m) % week_minutes) ≡ true
  distance_lies = go (case_of f e m rising low)
    where
      go : Case f e m → lies f e ((m + distance f e m) % week_minutes) ≡ true
      go (ahead a d) = lies_in f e ((m + distance f e m) % week_minutes) (omega arith) (omega arith)
      go (inside a b d) = lies_in f e ((m + distance f e m) % week_minutes) (omega arith) (omega arith)
      go (behind b d) = lies_in f e ((m + distance f e m) % week_minutes) (omega arith) (omega arith)

  pub none_nearer : (j : ℕ) → j < distance f e m → lies f e ((m + j) % week_minutes) ≡ false
  none_nearer j l = go (case_of f e m rising low) (dec_lt (m + j) week_minutes)
    where
      go : Case f e m → Dec (m + j < week_minutes) → lies f e ((m + j) % week_minutes) ≡ false
      go (ahead a d) w = lies_before f e ((m + j) % week_minutes) (omega arith)
      go (inside a b d) w = absurd (omega arith)
      go (behind b d) (yes w) = lies_behind f e ((m + j) % week_minutes) (omega arith)
      go (behind b d) (no w) = lies_before f e ((m + j) % week_minutes) (omega (arith, w))
