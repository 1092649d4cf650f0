-- What the code finds is what the definition searches for.
use Rattle.std.specs.Prelude.{ℕ, zero, suc, ◌+◌, ◌%◌, ◌≤◌, ◌<◌, min, Bool, false, ◌&&◌, ◌||◌, cond, List, [], ◌∷◌, ◌⊎◌, ◌≡◌, refl, leb, ltb, length, Option, Some, None}
use Rattle.std.proofs.Math.Bool.{true}
use Rattle.std.proofs.Common.{inl, inr, sym, ap, ◌∙◌, subst, add-zero, arith}
use Rattle.std.proofs.Math.Decide.{dec_lt}
use borrow.Author.Tests.{ltb-true, leb-true}
use Rattle.quorum.specs.laws.Bools.{and_left, and_right, and_both, or_left, or_right}
use Rattle.calendar.specs.Calendar.{week_minutes, window_right, windows_right, in_window, first_of}
use Rattle.calendar.specs.laws.Search.{distance, nearest_from}
use Rattle.calendar.specs.laws.Week.{lies, distance_below, distance_lies, none_nearer}

-- d is the smallest of `best` and of the distances of the windows
pub record Found (best : ℕ) (ws : List ℕ) (m d : ℕ) : Type 0 where
  pub right : windows_right ws ≡ true
  pub within : d ≤ best
  pub below : 1 ≤ length ws → d < week_minutes
  pub hit : (d ≡ best) ⊎ (in_window ws ((m + d) % week_minutes) ≡ true)
  pub none : (j : ℕ) → j < d → in_window ws ((m + j) % week_minutes) ≡ false

-- one window more in front
module _ (f e : ℕ) (rest : List ℕ) (best m d : ℕ) (low : m < week_minutes) (w : window_right f e ≡ true) (r : Found (min best (distance f e m)) rest m d) where
  rising : f < e
  unfolding window_right
  rising = ltb-true f e (and_left (ltb f e) (leb e week_minutes) w)

  high : e ≤ week_minutes
  unfolding window_right
  high = leb-true e week_minutes (and_right (ltb f e) (leb e week_minutes) w)

  hit_more : (d ≡ best) ⊎ (in_window (f ∷ e ∷ rest) ((m + d) % week_minutes) ≡ true)
  unfolding in_window
  hit_more = go r.hit (dec_lt best (distance f e m))
    where
      here : (x : ℕ) → lies f e x ≡ true → lies f e x || in_window rest x ≡ true
      here x h = or_left (lies f e x) (in_window rest x) h

      there : (x : ℕ) → in_window rest x ≡ true → lies f e x || in_window rest x ≡ true
      there x h = or_right (lies f e x) (in_window rest x) h

      go : (d ≡ min best (distance f e m)) ⊎ (in_window rest ((m + d) % week_minutes) ≡ true) → Dec (best < distance f e m) → (d ≡ best) ⊎ (lies f e ((m + d) % week_minutes) || in_window rest ((m + d) % week_minutes) ≡ true)
      go (inr h) o = inr (there ((m + d) % week_minutes) h)
      go (inl h) (yes l) = inl (omega (arith, h))
      go (inl h) (no n) =
          let same : distance f e m ≡ d = omega (arith, h, n) in
          inr (here ((m + d) % week_minutes) (subst (λ (x : ℕ). lies f e ((m + x) % week_minutes) ≡ true) same (distance_lies f e m rising high low)))

  none_more : (j : ℕ) → j < d → in_window (f ∷ e ∷ rest) ((m + j) % week_minutes) ≡ false
  unfolding in_window
  none_more j l =
      let nearer : j < distance f e m = omega (arith, r.within) in
      rw (none_nearer f e m rising high low j nearer) (r.none j l)

  found_more : Found best (f ∷ e ∷ rest) m d
  unfolding windows_right
  found_more =
      record {
        right = and_both (window_right f e) (windows_right rest) w r.right;
        within = omega (arith, r.within);
        below = λ s. omega (arith, r.within, distance_below f e m rising high low);
        hit = hit_more;
        none = none_more;
      }

no_bad : (d : ℕ) {P : Type 0} → None ≡ Some d → P
no_bad d e = absurd (let z : ◌≡◌ {A = ℕ} 0 1 = cc in omega (arith, z))

-- what is found is the smallest
pub found : (ws : List ℕ) (best m d : ℕ) → m < week_minutes → nearest_from best ws m ≡ Some d → Found best ws m d
unfolding nearest_from windows_right in_window
found [] best m d low e =
    let same : best ≡ d = cc in
    record { right = refl; within = omega (arith, same); below = λ s. absurd (omega (arith, s)); hit = inl (sym same); none = λ j l. refl }
found (x ∷ []) best m d low e = no_bad d e
found (f ∷ x ∷ rest) best m d low e = go (window_right f x) refl e (λ w. found rest (min best (distance f x m)) m d low w)
  where
    next : Option ℕ
    next = nearest_from (min best (distance f x m)) rest m

    go : (b : Bool) → window_right f x ≡ b → cond (window_right f x) next None ≡ Some d → (next ≡ Some d → Found (min best (distance f x m)) rest m d) → Found best (f ∷ x ∷ rest) m d
    go true w h more = found_more f x rest best m d low w (more (sym (ap (λ (b : Bool). cond b next None) w) ∙ h))
    go false w h more = no_bad d (sym (ap (λ (b : Bool). cond b next None) w) ∙ h)

-- a bad window is found
pub not_found : (ws : List ℕ) (best m : ℕ) → nearest_from best ws m ≡ None → windows_right ws ≡ false
unfolding nearest_from windows_right
not_found [] best m e = no_bad best (sym e)
not_found (x ∷ []) best m e = refl
not_found (f ∷ x ∷ rest) best m e = go (window_right f x) refl e (λ w. not_found rest (min best (distance f x m)) m w)
  where
    next : Option ℕ
    next = nearest_from (min best (distance f x m)) rest m

    go : (b : Bool) → window_right f x ≡ b → cond (window_right f x) next None ≡ None → (next ≡ None → windows_right rest ≡ false) → window_right f x && windows_right rest ≡ false
    go true w h more = rw w (more (sym (ap (λ (b : Bool). cond b next None) w) ∙ h))
    go false w h more = rw w

-- the search of the definition ends at the first minute
pub first_at : (p : ℕ → Bool) (d m k : ℕ) → d < k → p (m + d) ≡ true → ((j : ℕ) → j < d → p (m + j) ≡ false) → first_of p m k ≡ m + d
unfolding first_of
first_at p d m zero l t n = absurd (omega arith)
first_at p zero m (suc k) l t n = rw (subst (λ (x : ℕ). p x ≡ true) (add-zero m) t) (sym (add-zero m))
first_at p (suc d) m (suc k) l t n =
    let here : p m ≡ false = subst (λ (x : ℕ). p x ≡ false) (add-zero m) (n 0 (omega arith)) in
    let shift : (x : ℕ) → m + 1 + x ≡ m + suc x = λ x. omega arith in
    let less : d < k = omega arith in
    rw here
    (first_at p d (m + 1) k less (subst (λ (x : ℕ). p x ≡ true) (sym (shift d)) t) (λ j h. subst (λ (x : ℕ). p x ≡ false) (sym (shift j)) (n (suc j) (omega arith))) ∙ shift d)
