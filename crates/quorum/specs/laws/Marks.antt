-- Setting a mark sets that mark and no other, and keeps within the word.
use Rattle.std.specs.Prelude.{ℕ, suc, ◌+◌, ◌-◌, ◌*◌, ◌/◌, ◌%◌, ◌^◌, ◌<◌, ◌≤◌, ◌≡◌, refl, Bool, true, false, ◌&&◌, cond, ◌≢◌, ◌⊎◌, eqb, ltb, leb}
use Rattle.std.proofs.Common.{sym, ap, subst, ◌∙◌, inl, inr, arith, pow-suc, lt_of_lt_of_le, div-lt_iff_lt-mul, one-mul, mod-eq_of_lt, pow_pos, pow-add, pow_mono, shr-shr, Fits, lt-ltb, le-ltb, le-leb, eq-eqb, eqb-true}
use Rattle.std.proofs.Math.Decide.{dec_lt}
use Rattle.std.proofs.Math.Nat.{add-div_right, add-mul-div_right, pow-succ', div-eq_of_lt, div-div-eq-div-mul, zero-div}
use Rattle.std.proofs.Math.Pow.{pow-lt}
use Rattle.std.specs.Int.{w64}
use Rattle.std.proofs.lemmas.Bool.{lt-leb, eqb-false}
use Rattle.quorum.specs.Marks.{mark, with_mark}

-- adding 2 ^ k to a number whose digit k is 0: the digit itself
sum_same : (w k : ℕ) → w / 2 ^ k % 2 ≡ 0 → (w + 2 ^ k) / 2 ^ k % 2 ≡ 1
sum_same w k e = rw (add-div_right w (pow_pos k)) (omega arith)

-- the digits below
sum_below : (w j d : ℕ) → (w + 2 ^ (suc d + j)) / 2 ^ j % 2 ≡ w / 2 ^ j % 2
sum_below w j d =
    rw (pow-add 2 (suc d) j, add-mul-div_right w (2 ^ suc d) (pow_pos j), pow-suc 2 d) (omega arith)

halves : (q d : ℕ) → q % 2 ≡ 0 → (q + 1) / 2 ^ suc d ≡ q / 2 ^ suc d
halves q d e =
    let h : (q + 1) / 2 ≡ q / 2 = omega arith in
    rw (pow-succ' 2 d, ← div-div-eq-div-mul (q + 1) 2 (2 ^ d), ← div-div-eq-div-mul q 2 (2 ^ d), h)

-- the digits above
sum_above : (w k d : ℕ) → w / 2 ^ k % 2 ≡ 0 → (w + 2 ^ k) / 2 ^ (k + suc d) ≡ w / 2 ^ (k + suc d)
sum_above w k d e = rw (← shr-shr (w + 2 ^ k) k (suc d), ← shr-shr w k (suc d), add-div_right w (pow_pos k)) (halves (w / 2 ^ k) d e)

sum_other : (w k j : ℕ) → j ≢ k → w / 2 ^ k % 2 ≡ 0 → (w + 2 ^ k) / 2 ^ j % 2 ≡ w / 2 ^ j % 2
sum_other w k j ne e = go (dec_lt j k)
  where
    go : Dec (j < k) → (w + 2 ^ k) / 2 ^ j % 2 ≡ w / 2 ^ j % 2
    go (yes h) =
        let p : suc (k - suc j) + j ≡ k = omega arith in
        subst (λ (m : ℕ). (w + 2 ^ m) / 2 ^ j % 2 ≡ w / 2 ^ j % 2) p (sum_below w j (k - suc j))
    go (no h) =
        let p : k + suc (j - suc k) ≡ j = omega arith in
        ap (λ (m : ℕ). m % 2)
        (subst (λ (m : ℕ). (w + 2 ^ k) / 2 ^ m ≡ w / 2 ^ m) p (sum_above w k (j - suc k) e))

sum_fits : (w k : ℕ) → w < 2 ^ 64 → k < 64 → w / 2 ^ k % 2 ≡ 0 → w + 2 ^ k < 2 ^ 64
sum_fits w k h l e =
    let d : ℕ = 63 - k in
    let p : suc d + k ≡ 64 = omega arith in
    let full : 2 ^ suc d * 2 ^ k ≡ 2 ^ 64 = sym (pow-add 2 (suc d) k) ∙ ap (λ (m : ℕ). 2 ^ m) p in
    let low : w / 2 ^ k < 2 ^ suc d = (div-lt_iff_lt-mul (pow_pos k)).1 (rw full h) in
    let even : 2 ^ suc d ≡ 2 * 2 ^ d = pow-succ' 2 d in
    let up : (w + 2 ^ k) / 2 ^ k ≡ w / 2 ^ k + 1 = add-div_right w (pow_pos k) in
    let high : (w + 2 ^ k) / 2 ^ k < 2 ^ suc d = rw up (omega arith) in
    rw full at ((div-lt_iff_lt-mul (pow_pos k)).0 high)

-- mark p, for a p from 1
pub mark_digit : (w p : ℕ) → 1 ≤ p → mark w p ≡ eqb (w / 2 ^ (p - 1) % 2) 1
unfolding mark
mark_digit w p h = rw (lt-ltb 0 p h)

digit_clear : (w p : ℕ) → 1 ≤ p → mark w p ≡ false → w / 2 ^ (p - 1) % 2 ≡ 0
digit_clear w p h e =
    let f : w / 2 ^ (p - 1) % 2 ≢ 1 = eqb-false (w / 2 ^ (p - 1) % 2) 1 (sym (mark_digit w p h) ∙ e) in
    omega arith

-- the cases of `mark`
pub mark_low : (w p : ℕ) → p < 1 → mark w p ≡ false
unfolding mark
mark_low w p h = rw (le-ltb 0 p (omega arith))

-- a word below 2 ^ 64 has no mark above 64
pub mark_high : (w p : ℕ) → w < 2 ^ 64 → 64 < p → mark w p ≡ false
mark_high w p h l =
    let a : 1 ≤ p = omega arith in
    let k : 64 ≤ p - 1 = omega arith in
    mark_digit w p a ∙ rw (div-eq_of_lt (lt_of_lt_of_le h (pow_mono k)))

pub mark_zero : (p : ℕ) → mark 0 p ≡ false
mark_zero p = go (dec_lt 0 p)
  where
    go : Dec (0 < p) → mark 0 p ≡ false
    go (yes h) = mark_digit 0 p h ∙ rw (zero-div (2 ^ (p - 1)))
    go (no h) = mark_low 0 p (omega arith)

-- the cases of `with_mark`
pub with_low : (w p : ℕ) → p < 1 → with_mark w p ≡ w
unfolding with_mark
with_low w p h = rw (le-ltb 0 p (omega arith))

pub with_high : (w p : ℕ) → 64 < p → with_mark w p ≡ w
unfolding with_mark
with_high w p h = rw (lt-ltb 0 p (omega arith), lt-leb p 64 h)

pub with_set : (w p : ℕ) → mark w p ≡ true → with_mark w p ≡ w
unfolding with_mark
with_set w p e = go (ltb 0 p && leb p 64)
  where
    go : (b : Bool) → cond b (cond (mark w p) w (w + 2 ^ (p - 1))) w ≡ w
    go true = rw e
    go false = refl

pub with_clear : (w p : ℕ) → 1 ≤ p → p ≤ 64 → mark w p ≡ false → with_mark w p ≡ w + 2 ^ (p - 1)
unfolding with_mark
with_clear w p a b e = rw (lt-ltb 0 p a, le-leb p 64 b, e)

-- a with_mark within 1 to 64 is one of two words
module _ (P : ℕ → Type 0) (w p : ℕ) where
  by_cases : P w → (1 ≤ p → p ≤ 64 → mark w p ≡ false → P (w + 2 ^ (p - 1))) → P (with_mark w p)
  by_cases same more = go (dec_lt p 1) (dec_lt 64 p)
    where
      inside : 1 ≤ p → p ≤ 64 → (b : Bool) → mark w p ≡ b → P (with_mark w p)
      inside a l true e = rw (with_set w p e) same
      inside a l false e = rw (with_clear w p a l e) (more a l e)

      go : Dec (p < 1) → Dec (64 < p) → P (with_mark w p)
      go (yes h) d = rw (with_low w p h) same
      go (no h) (yes l) = rw (with_high w p l) same
      go (no h) (no l) = inside (omega arith) (omega arith) (mark w p) refl

pub mark_same : (w p : ℕ) → 1 ≤ p → p ≤ 64 → mark (with_mark w p) p ≡ true
mark_same w p a l = go (mark w p) refl
  where
    go : (b : Bool) → mark w p ≡ b → mark (with_mark w p) p ≡ true
    go true e = rw (with_set w p e) e
    go false e =
        rw (with_clear w p a l e)
        (mark_digit (w + 2 ^ (p - 1)) p a ∙ eq-eqb ((w + 2 ^ (p - 1)) / 2 ^ (p - 1) % 2) 1 (sum_same w (p - 1) (digit_clear w p a e)))

pub mark_other : (w p q : ℕ) → q ≢ p → mark (with_mark w p) q ≡ mark w q
mark_other w p q ne = by_cases (λ x. mark x q ≡ mark w q) w p refl (λ a l e. go a e (dec_lt q 1))
  where
    go : 1 ≤ p → mark w p ≡ false → Dec (q < 1) → mark (w + 2 ^ (p - 1)) q ≡ mark w q
    go a e (yes h) = mark_low (w + 2 ^ (p - 1)) q h ∙ sym (mark_low w q h)
    go a e (no h) =
        let b : 1 ≤ q = omega arith in
        let apart : q - 1 ≢ p - 1 = λ s. ne (omega arith) in
        mark_digit (w + 2 ^ (p - 1)) q b ∙ ap (λ (m : ℕ). eqb m 1) (sum_other w (p - 1) (q - 1) apart (digit_clear w p a e)) ∙ sym (mark_digit w q b)

pub with_mark_fits : (w p : ℕ) → w < 2 ^ 64 → with_mark w p < 2 ^ 64
with_mark_fits w p h = by_cases (λ x. x < 2 ^ 64) w p h (λ a l e. sum_fits w (p - 1) h (omega arith) (digit_clear w p a e))

-- no mark is lost
pub mark_kept : (w p q : ℕ) → mark w q ≡ true → mark (with_mark w p) q ≡ true
mark_kept w p q e = go (eqb q p) refl
  where
    go : (b : Bool) → eqb q p ≡ b → mark (with_mark w p) q ≡ true
    go true s = subst (λ (m : ℕ). mark (with_mark w m) q ≡ true) (eqb-true q p s) (rw (with_set w q e) e)
    go false s = mark_other w p q (eqb-false q p s) ∙ e

-- a mark that is set was set before, or is the one that was set
pub mark_came : (w p q : ℕ) → mark (with_mark w p) q ≡ true → (mark w q ≡ true) ⊎ (q ≡ p)
mark_came w p q e = go (eqb q p) refl
  where
    go : (b : Bool) → eqb q p ≡ b → (mark w q ≡ true) ⊎ (q ≡ p)
    go true s = inr (eqb-true q p s)
    go false s = inl (sym (mark_other w p q (eqb-false q p s)) ∙ e)

-- the paths of the code
pub mark_below : (w p : ℕ) → p < 1 → false ≡ mark w p
mark_below w p h = sym (mark_low w p h)

pub mark_above : (w p : ℕ) → w < 2 ^ 64 → 64 < p → false ≡ mark w p
mark_above w p h l = sym (mark_high w p h l)

pub mark_within : (w p : ℕ) → 1 ≤ p → eqb (w / 2 ^ (p - 1) % 2) 1 ≡ mark w p
mark_within w p h = sym (mark_digit w p h)

machine_sum : (w k : ℕ) → k < 64 → w + (1 * 2 ^ k) % 2 ^ 64 ≡ w + 2 ^ k
machine_sum w k l = ap (λ (m : ℕ). w + m) (rw (one-mul, mod-eq_of_lt (pow-lt l)))

pub with_below : (w p : ℕ) → p < 1 → w ≡ with_mark w p
with_below w p h = sym (with_low w p h)

pub with_above : (w p : ℕ) → 64 < p → w ≡ with_mark w p
with_above w p h = sym (with_high w p h)

pub with_kept : (w p : ℕ) (b : Bool) → b ≡ mark w p → b ≡ true → w ≡ with_mark w p
with_kept w p b e t = sym (with_set w p (sym e ∙ t))

module _ (w p : ℕ) (b : Bool) (e : b ≡ mark w p) (t : b ≡ false) (a : 1 ≤ p) (l : p ≤ 64) where
  pub with_added : w + (1 * 2 ^ (p - 1)) % 2 ^ 64 ≡ with_mark w p
  with_added = machine_sum w (p - 1) (omega arith) ∙ sym (with_clear w p a l (sym e ∙ t))

  pub added_fits : w < 2 ^ 64 → Fits w64 (w + (1 * 2 ^ (p - 1)) % 2 ^ 64)
  added_fits h =
      record {
        fits =
            rw (machine_sum w (p - 1) (omega arith))
            (sum_fits w (p - 1) h (omega arith) (digit_clear w p a (sym e ∙ t)));
      }

pub ruleset mark_cases = (mark_below, mark_above, mark_within)

pub ruleset with_mark_cases = (with_below, with_above, with_kept, with_added, added_fits)
