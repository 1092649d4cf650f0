-- Sums and counts of 1 to n: they rise where one summand or one member does, and by one where that rises by one.
use Prim.Native.Nat.{ℕ, zero, suc, ◌+◌, ◌*◌, ◌≤◌, ◌<◌}
use Rattle.std.specs.Prelude.{Bool, true, false, ◌⊎◌, ◌≢◌, ◌≡◌, refl, eqb}
use Rattle.std.proofs.lemmas.Bool.{false≢true}
use Rattle.std.proofs.Common.{inl, inr, sym, ap, ◌∙◌, eqb-true, eq-eqb, ne_eqb}
use Rattle.std.proofs.Math.Path.{subst}
use native.Mathlib.Omega.{arith}
use Rattle.std.proofs.Math.Decide.{ℕ_discrete}
use Rattle.quorum.specs.Marks.{mark, with_mark}
use Rattle.quorum.specs.laws.Marks.{mark_zero, mark_came}
use Rattle.quorum.specs.Total.{share, total, count, everyone}
use Rattle.quorum.specs.laws.Total.{Within, total_none}

pub share_few : (b : Bool) → share b 1 ≤ 1
share_few true = omega arith
share_few false = omega arith

pub share_grows : (a b : Bool) → (a ≡ true → b ≡ true) → share a 1 ≤ share b 1
share_grows true true h = omega arith
share_grows true false h = absurd (false≢true (h refl))
share_grows false b h = omega arith

pub share_rises : (a b : Bool) → a ≡ false → b ≡ true → share a 1 < share b 1
share_rises a b e f = rw (e, f) (omega arith)

-- every summand is at most 99
pub sum_few : (w : ℕ → ℕ) (n : ℕ) → ((i : ℕ) → 1 ≤ i → i ≤ n → w i ≤ 99) → total w everyone n ≤ 99 * n
unfolding total
sum_few w zero h = omega arith
sum_few w (suc n) h = omega (arith, sum_few w n (λ i a b. h i a (omega arith)), h (suc n) (omega arith) (omega arith))

module _ (v w : ℕ → ℕ) where
  pub sum_grows : (n : ℕ) → ((i : ℕ) → 1 ≤ i → i ≤ n → v i ≤ w i) → total v everyone n ≤ total w everyone n
  unfolding total
  sum_grows zero h = omega arith
  sum_grows (suc n) h = omega (arith, sum_grows n (λ i a b. h i a (omega arith)), h (suc n) (omega arith) (omega arith))

  -- one summand rises and none falls
  pub sum_rises : (n k : ℕ) → 1 ≤ k → k ≤ n → ((i : ℕ) → 1 ≤ i → i ≤ n → v i ≤ w i) → v k < w k → total v everyone n < total w everyone n
  unfolding total
  sum_rises zero k low high h l = absurd (omega arith)
  sum_rises (suc n) k low high h l = go (ℕ_discrete k (suc n)) (λ m. sum_rises n k low m (λ i a b. h i a (omega arith)) l)
    where
      go : Dec (k ≡ suc n) → (k ≤ n → total v everyone n < total w everyone n) → total v everyone (suc n) < total w everyone (suc n)
      go (yes e) r =
          let here : v (suc n) < w (suc n) = subst (λ (m : ℕ). v m < w m) e l in
          omega (arith, sum_grows n (λ i a b. h i a (omega arith)))
      go (no ne) r = omega (arith, r (omega arith), h (suc n) (omega arith) (omega arith))

-- a count is the sum of its members' shares
count_sum : (M : ℕ → Bool) (k : ℕ) → count M k ≡ total (λ p. share (M p) 1) everyone k
unfolding total
count_sum M zero = refl
count_sum M (suc k) = rw (count_sum M k)

-- one member more and none less
pub count_rises : (M K : ℕ → Bool) (k p : ℕ) → 1 ≤ p → p ≤ k → Within k M K → M p ≡ false → K p ≡ true → count M k < count K k
count_rises M K k p low high h e f =
    rw (count_sum M k, count_sum K k)
    (sum_rises (λ q. share (M q) 1) (λ q. share (K q) 1) k p low high (λ q a b. share_grows (M q) (K q) (h q a b)) (share_rises (M p) (K p) e f))

-- a word of 0 has no mark
pub zero_count : (w m : ℕ) → w ≡ 0 → count (mark w) m ≡ 0
zero_count w m e = total_none (λ p. 1) (mark w) m (λ p a b. ap (λ (x : ℕ). mark x p) e ∙ mark_zero p)

-- ---- by one

sum_spread : (v w u : ℕ → ℕ) (n : ℕ) → ((i : ℕ) → 1 ≤ i → i ≤ n → w i ≤ v i + u i) → total w everyone n ≤ total v everyone n + total u everyone n
unfolding total
sum_spread v w u zero h = omega arith
sum_spread v w u (suc n) h =
    omega (arith, sum_spread v w u n (λ i a b. h i a (omega arith)), h (suc n) (omega arith) (omega arith))

-- one place at most
one_place : (p k : ℕ) → count (λ q. eqb q p) k ≤ 1
unfolding total
one_place p zero = omega arith
one_place p (suc k) = go (eqb (suc k) p) refl (one_place p k)
  where
    go : (b : Bool) → eqb (suc k) p ≡ b → count (λ q. eqb q p) k ≤ 1 → share b 1 + count (λ q. eqb q p) k ≤ 1
    go true e r =
        let same : suc k ≡ p = eqb-true (suc k) p e in
        omega (arith, total_none (λ q. 1) (λ q. eqb q p) k (λ q a b. ne_eqb q p (λ z. omega arith)))
    go false e r = omega arith

spread_one : (a b c : Bool) → (b ≡ true → (a ≡ true) ⊎ (c ≡ true)) → share b 1 ≤ share a 1 + share c 1
spread_one true b c h = omega (arith, share_few b)
spread_one false true c h = go (h refl)
  where
    go : (false ≡ true) ⊎ (c ≡ true) → 1 ≤ 0 + share c 1
    go (inl e) = absurd (false≢true e)
    go (inr e) = rw e (omega arith)
spread_one false false c h = omega arith

-- one member more at most
count_adds : (M K : ℕ → Bool) (p k : ℕ) → ((q : ℕ) → K q ≡ true → (M q ≡ true) ⊎ (q ≡ p)) → count K k ≤ count M k + 1
count_adds M K p k h =
    omega (
      arith,
      count_sum M k,
      count_sum K k,
      count_sum (λ q. eqb q p) k,
      one_place p k,
      sum_spread (λ q. share (M q) 1) (λ q. share (K q) 1) (λ q. share (eqb q p) 1) k (λ q a b. spread_one (M q) (K q) (eqb q p) (λ e. of q (h q e))),
    )
  where
    of : (q : ℕ) → (M q ≡ true) ⊎ (q ≡ p) → (M q ≡ true) ⊎ (eqb q p ≡ true)
    of q (inl e) = inl e
    of q (inr e) = inr (eq-eqb q p e)

pub marks_add : (v w p m : ℕ) → w ≡ with_mark v p → count (mark w) m ≤ count (mark v) m + 1
marks_add v w p m e = count_adds (mark v) (mark w) p m (λ q h. mark_came v p q (ap (λ (x : ℕ). mark x q) (sym e) ∙ h))

-- one summand rises by one at most
pub sum_one : (v w : ℕ → ℕ) (n k : ℕ) → ((i : ℕ) → 1 ≤ i → i ≤ n → i ≢ k → w i ≤ v i) → (1 ≤ k → k ≤ n → w k ≤ v k + 1) → total w everyone n ≤ total v everyone n + 1
sum_one v w n k h l =
    omega (
      arith,
      count_sum (λ q. eqb q k) n,
      one_place k n,
      sum_spread v w (λ q. share (eqb q k) 1) n (λ i a b. at i a b (eqb i k) refl),
    )
  where
    at : (i : ℕ) → 1 ≤ i → i ≤ n → (b : Bool) → eqb i k ≡ b → w i ≤ v i + share b 1
    at i a b true e =
        let same : k ≡ i = sym (eqb-true i k e) in
        rw same at (l (omega arith) (omega arith))
    at i a b false e = omega (arith, h i a b (λ z. false≢true (sym e ∙ eq-eqb i k z)))
