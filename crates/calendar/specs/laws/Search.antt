-- How the code searches: each window by its distance from a minute of the week.
use Rattle.std.specs.Prelude.{ℕ, ◌+◌, ◌-◌, ◌≤◌, ◌<◌, min, Bool, true, false, cond, List, [], ◌∷◌, ◌≡◌, refl, ltb, get_or, drop, Option, Some, None}
use Rattle.std.proofs.Math.Path.{sym}
use Rattle.std.proofs.Common.{ap, ◌∙◌, add-one, drop-cons}
use Rattle.std.proofs.Math.Decide.{dec_lt}
use native.Mathlib.Omega.{arith}
use Rattle.std.proofs.Math.ListN.{length, drop_of_length-le}
use borrow.Author.Tests.{lt-ltb, le-ltb}
use Rattle.calendar.specs.Calendar.{week_minutes, window_right}

-- the minutes from minute m of the week to the next one in the window
unfoldable pub distance : ℕ → ℕ → ℕ → ℕ
distance first end m = cond (ltb m first) (first - m) (cond (ltb m end) 0 (week_minutes - m + first))

-- the smallest distance of all windows, and of `best`
unfoldable pub nearest_from : ℕ → List ℕ → ℕ → Option ℕ
nearest_from best [] m = Some best
nearest_from best (first ∷ []) m = None
nearest_from best (first ∷ end ∷ rest) m = cond (window_right first end) (nearest_from (min best (distance first end m)) rest m) None

module _ (f e m : ℕ) where
  pub distance_ahead : m < f → f - m ≡ distance f e m
  unfolding distance
  distance_ahead h = rw (lt-ltb m f h)

  pub distance_inside : f ≤ m → m < e → 0 ≡ distance f e m
  unfolding distance
  distance_inside h k = rw (le-ltb m f h, lt-ltb m e k)

  pub distance_next_week : f ≤ m → e ≤ m → week_minutes - m + f ≡ distance f e m
  unfolding distance
  distance_next_week h k = rw (le-ltb m f h, le-ltb m e k)

pub ruleset distances = (distance_ahead, distance_inside, distance_next_week)

-- the window at place k
unfoldable pub window_at : List ℕ → ℕ → ℕ → Option ℕ
window_at ws k m =
    cond (ltb (length ws - k) 2) None
    (cond (window_right (get_or ws k 0) (get_or ws (k + 1) 0)) (Some (distance (get_or ws k 0) (get_or ws (k + 1) 0) m)) None)

module _ (ws : List ℕ) (k m : ℕ) where
  pub window_odd : length ws - k < 2 → None ≡ window_at ws k m
  unfolding window_at
  window_odd l = rw (lt-ltb (length ws - k) 2 l)

  pub window_good : (b : Bool) (d : ℕ) → 2 ≤ length ws - k → b ≡ window_right (get_or ws k 0) (get_or ws (k + 1) 0) → b ≡ true → d ≡ distance (get_or ws k 0) (get_or ws (k + 1) 0) m → Some d ≡ window_at ws k m
  unfolding window_at
  window_good b d l e t u = rw (le-ltb (length ws - k) 2 l, ← e, t, u)

  pub window_bad : (b : Bool) → 2 ≤ length ws - k → b ≡ window_right (get_or ws k 0) (get_or ws (k + 1) 0) → b ≡ false → None ≡ window_at ws k m
  unfolding window_at
  window_bad b l e t = rw (le-ltb (length ws - k) 2 l, ← e, t)

pub ruleset windows = (window_odd, window_good, window_bad)

-- what is sought in the windows behind one
unfoldable pick : Option ℕ → ℕ → List ℕ → ℕ → Option ℕ
pick None best ws m = None
pick (Some d) best ws m = nearest_from (min best d) ws m

pick_bad : (best : ℕ) (ws : List ℕ) (m : ℕ) → pick None best ws m ≡ None
unfolding pick
pick_bad best ws m = refl

pick_cond : (b : Bool) (d best : ℕ) (ws : List ℕ) (m : ℕ) → pick (cond b (Some d) None) best ws m ≡ cond b (nearest_from (min best d) ws m) None
unfolding pick
pick_cond true d best ws m = refl
pick_cond false d best ws m = refl

-- the loop: the windows from place k on are left
unfoldable pub Sought : List ℕ → ℕ → ℕ → ℕ → Type 0
Sought ws m best k = nearest_from best (drop k ws) m ≡ nearest_from week_minutes ws m

pub sought_start : (ws : List ℕ) (m : ℕ) → Sought ws m week_minutes 0
unfolding Sought
sought_start ws m = refl

-- one number more is read
drop_next : (ws : List ℕ) (k : ℕ) → k < length ws → drop k ws ≡ get_or ws k 0 ∷ drop (k + 1) ws
drop_next ws k h = drop-cons ws k 0 h ∙ ap (λ (x : ℕ). get_or ws k 0 ∷ drop x ws) (sym (add-one k))

-- two
drop_window : (ws : List ℕ) (k : ℕ) → k < length ws → 2 ≤ length ws - k → drop k ws ≡ get_or ws k 0 ∷ get_or ws (k + 1) 0 ∷ drop (k + 2) ws
drop_window ws k h l =
    let more : k + 1 < length ws = omega arith in
    let behind : k + 1 + 1 ≡ k + 2 = omega arith in
    drop_next ws k h ∙ ap (λ (x : List ℕ). get_or ws k 0 ∷ x) (drop_next ws (k + 1) more ∙ ap (λ (x : ℕ). get_or ws (k + 1) 0 ∷ drop x ws) behind)

module _ (ws : List ℕ) (m best k : ℕ) (i : Sought ws m best k) where
  pub sought_end : length ws ≤ k → Some best ≡ nearest_from week_minutes ws m
  unfolding Sought nearest_from
  sought_end h = rw (← i, drop_of_length-le ws h)

  -- the window at k goes first
  split : k < length ws → nearest_from best (drop k ws) m ≡ pick (window_at ws k m) best (drop (k + 2) ws) m
  unfolding nearest_from window_at
  split h = go (dec_lt (length ws - k) 2)
    where
      go : Dec (length ws - k < 2) → nearest_from best (drop k ws) m ≡ pick (window_at ws k m) best (drop (k + 2) ws) m
      go (yes l) =
          let last : length ws ≤ k + 1 = omega arith in
          rw (drop_next ws k h, drop_of_length-le ws last, lt-ltb (length ws - k) 2 l, pick_bad)
      go (no n) =
          let l : 2 ≤ length ws - k = omega (arith, n) in
          rw (drop_window ws k h l, le-ltb (length ws - k) 2 l)
          (sym (pick_cond (window_right (get_or ws k 0) (get_or ws (k + 1) 0)) (distance (get_or ws k 0) (get_or ws (k + 1) 0) m) best (drop (k + 2) ws) m))

  pub sought_bad : (x : Option ℕ) → k < length ws → x ≡ window_at ws k m → x ≡ None → None ≡ nearest_from week_minutes ws m
  unfolding Sought pick
  sought_bad x h e t = rw (← i, split h, ← e, t)

  pub sought_next : (x : Option ℕ) (d y : ℕ) → k < length ws → x ≡ window_at ws k m → x ≡ Some d → y ≡ min best d → Sought ws m y (k + 2)
  unfolding Sought pick
  sought_next x d y h e t w = let step : nearest_from best (drop k ws) m ≡ nearest_from y (drop (k + 2) ws) m = split h ∙ rw (← e, t, w) in sym step ∙ i

-- the last window
pub sought_last : (ws : List ℕ) (m best k : ℕ) → Sought ws m best k → (x : Option ℕ) (d y : ℕ) → k < length ws → length ws - k ≤ 2 → x ≡ window_at ws k m → x ≡ Some d → y ≡ min best d → Some y ≡ nearest_from week_minutes ws m
sought_last ws m best k i x d y h l e t w = sought_end ws m y (k + 2) (sought_next ws m best k i x d y h e t w) (omega arith)

pub ruleset soughts = (sought_start, sought_end, sought_bad, sought_next, sought_last)
