-- Weighted sets of the numbers 1 to k, and where they meet. Thresholds are sums: "a weight of at least N − s" is N ≤ weight + s.
use Prim.Native.Nat.{ℕ, zero, suc, ◌+◌, ◌≤◌, ◌<◌}
use Rattle.std.specs.Prelude.{◌≡◌, Bool, not, ◌&&◌, ◌≢◌}
use Rattle.std.proofs.Math.Path.{refl, sym}
use Rattle.std.proofs.Common.{ap}
use Rattle.std.proofs.Math.Bool.{true, false}
use Rattle.std.proofs.lemmas.Bool.{false≢true}
use native.Mathlib.Omega.{arith}
use Rattle.std.proofs.Math.Decide.{dec_le}
use Rattle.std.proofs.Math.Numerals.{add-one}
use Rattle.std.proofs.Math.Dec.{eqb}
use borrow.Author.Tests.{eqb-true, eqb-false}
use Rattle.quorum.specs.laws.Bools.{and_left, and_right}
use Rattle.quorum.specs.Total.{share, total, count, everyone}

-- a number of 1 to k that is in M
pub record Member (k : ℕ) (M : ℕ → Bool) : Type 0 where
  pub at : ℕ
  pub low : 1 ≤ at
  pub high : at ≤ k
  pub holds : M at ≡ true

-- K has all that M has among 1 to k
abbrev pub Within : ℕ → (ℕ → Bool) → (ℕ → Bool) → Type 0
Within k M K = (p : ℕ) → 1 ≤ p → p ≤ k → M p ≡ true → K p ≡ true

share_mono : (a b : Bool) (x : ℕ) → (a ≡ true → b ≡ true) → share a x ≤ share b x
share_mono true true x f = omega arith
share_mono true false x f = absurd (false≢true (f refl))
share_mono false true x f = omega arith
share_mono false false x f = omega arith

share_not : (a : Bool) (x : ℕ) → share a x + share (not a) x ≡ x
share_not true x = omega arith
share_not false x = omega arith

share_meet : (a b u : Bool) (x : ℕ) → (a ≡ true → u ≡ true) → (b ≡ true → u ≡ true) → share a x + share b x ≤ share (a && b) x + share u x
share_meet true true true x f g = omega arith
share_meet true true false x f g = absurd (false≢true (f refl))
share_meet true false true x f g = omega arith
share_meet true false false x f g = absurd (false≢true (f refl))
share_meet false true true x f g = omega arith
share_meet false true false x f g = absurd (false≢true (g refl))
share_meet false false true x f g = omega arith
share_meet false false false x f g = omega arith

module _ (w : ℕ → ℕ) where
  pub total_next : (M : ℕ → Bool) (k : ℕ) → total w M (k + 1) ≡ share (M (k + 1)) (w (k + 1)) + total w M k
  unfolding total
  total_next M k = rw add-one

  -- a larger set weighs no less
  pub total_mono : (M K : ℕ → Bool) (k : ℕ) → Within k M K → total w M k ≤ total w K k
  unfolding total
  total_mono M K zero f = omega arith
  total_mono M K (suc k) f =
      omega (arith, total_mono M K k (λ p a b. f p a (omega arith)), share_mono (M (suc k)) (K (suc k)) (w (suc k)) (f (suc k) (omega arith) (omega arith)))

  -- tests that agree on those of 1 to k that weigh anything
  pub total_shares : (M K : ℕ → Bool) (k : ℕ) → ((p : ℕ) → 1 ≤ p → p ≤ k → share (M p) (w p) ≡ share (K p) (w p)) → total w M k ≡ total w K k
  unfolding total
  total_shares M K zero f = refl
  total_shares M K (suc k) f = omega (arith, total_shares M K k (λ p a b. f p a (omega arith)), f (suc k) (omega arith) (omega arith))

  -- tests that agree on 1 to k
  pub total_agree : (M K : ℕ → Bool) (k : ℕ) → ((p : ℕ) → 1 ≤ p → p ≤ k → M p ≡ K p) → total w M k ≡ total w K k
  unfolding total
  total_agree M K zero f = refl
  total_agree M K (suc k) f =
      let rest : total w M k ≡ total w K k = total_agree M K k (λ p a b. f p a (omega arith)) in
      rw (rest, f (suc k) (omega arith) (omega arith))

  -- a set and the rest are the whole
  pub total_not : (M : ℕ → Bool) (k : ℕ) → total w M k + total w (λ p. not (M p)) k ≡ total w everyone k
  unfolding total
  total_not M zero = refl
  total_not M (suc k) = omega (arith, total_not M k, share_not (M (suc k)) (w (suc k)))

  pub total_whole : (M : ℕ → Bool) (k : ℕ) → total w M k ≤ total w everyone k
  total_whole M k = total_mono M everyone k (λ p a b e. refl)

  -- a set is no lighter among more numbers
  pub total_longer : (M : ℕ → Bool) (k n : ℕ) → k ≤ n → total w M k ≤ total w M n
  unfolding total
  total_longer M k zero h = let e : k ≡ 0 = omega arith in rw e (omega arith)
  total_longer M k (suc n) h = go (dec_le k n) (λ l. total_longer M k n l)
    where
      go : Dec (k ≤ n) → (k ≤ n → total w M k ≤ total w M n) → total w M k ≤ total w M (suc n)
      go (yes l) r = omega (arith, r l)
      go (no l) r = let e : k ≡ suc n = omega arith in rw e (omega arith)

  pub total_none : (M : ℕ → Bool) (k : ℕ) → ((p : ℕ) → 1 ≤ p → p ≤ k → M p ≡ false) → total w M k ≡ 0
  unfolding total
  total_none M zero f = refl
  total_none M (suc k) f =
      let rest : total w M k ≡ 0 = total_none M k (λ p a b. f p a (omega arith)) in
      rw (f (suc k) (omega arith) (omega arith), rest)

  -- two parts of U overlap in at least what they have together beyond U
  pub total_meet_in : (M K U : ℕ → Bool) (k : ℕ) → Within k M U → Within k K U → total w M k + total w K k ≤ total w (λ p. M p && K p) k + total w U k
  unfolding total
  total_meet_in M K U zero f g = omega arith
  total_meet_in M K U (suc k) f g =
      omega (
        arith,
        total_meet_in M K U k (λ p a b. f p a (omega arith)) (λ p a b. g p a (omega arith)),
        share_meet (M (suc k)) (K (suc k)) (U (suc k)) (w (suc k)) (f (suc k) (omega arith) (omega arith)) (g (suc k) (omega arith) (omega arith)),
      )

  pub total_meet : (M K : ℕ → Bool) (k : ℕ) → total w M k + total w K k ≤ total w (λ p. M p && K p) k + total w everyone k
  total_meet M K k = total_meet_in M K everyone k (λ p a b e. refl) (λ p a b e. refl)

  -- a set with weight has a member
  pub total_member : (M : ℕ → Bool) (k : ℕ) → 0 < total w M k → Member k M
  unfolding total
  total_member M zero h = absurd (omega arith)
  total_member M (suc k) h = go (M (suc k)) refl h (λ more. total_member M k more)
    where
      widen : Member k M → Member (suc k) M
      widen x = record { at = x.at; low = x.low; high = omega arith; holds = x.holds }

      go : (b : Bool) → M (suc k) ≡ b → 0 < share b (w (suc k)) + total w M k → (0 < total w M k → Member k M) → Member (suc k) M
      go true e p r = record { at = suc k; low = omega arith; high = omega arith; holds = e }
      go false e p r = widen (r (omega arith))

  -- a set weighs no less than a member
  pub member_total : (M : ℕ → Bool) (k p : ℕ) → 1 ≤ p → p ≤ k → M p ≡ true → w p ≤ total w M k
  unfolding total
  member_total M zero p a b e = absurd (omega arith)
  member_total M (suc k) p a b e = go (eqb p (suc k)) refl (λ l. member_total M k p a l e)
    where
      go : (t : Bool) → eqb p (suc k) ≡ t → (p ≤ k → w p ≤ total w M k) → w p ≤ share (M (suc k)) (w (suc k)) + total w M k
      go true s r =
          let same : suc k ≡ p = sym (eqb-true p (suc k) s) in
          rw (same, e) (omega arith)
      go false s r =
          let apart : p ≢ suc k = eqb-false p (suc k) s in
          omega (arith, r (omega arith))

-- a number of 1 to k that is in both A and B
pub record Common (k : ℕ) (A B : ℕ → Bool) : Type 0 where
  pub at : ℕ
  pub low : 1 ≤ at
  pub high : at ≤ k
  pub left : A at ≡ true
  pub right : B at ≡ true

-- an honest number of 1 to k that is in both A and B
pub record HonestCommon (k : ℕ) (A B H : ℕ → Bool) : Type 0 where
  pub at : ℕ
  pub low : 1 ≤ at
  pub high : at ≤ k
  pub left : A at ≡ true
  pub right : B at ≡ true
  pub honest : H at ≡ true

module _ (w : ℕ → ℕ) (k : ℕ) where
  -- two sets that together weigh more than the whole
  pub common_member : (A B : ℕ → Bool) → total w everyone k < total w A k + total w B k → Common k A B
  common_member A B h = split (total_member w (λ p. A p && B p) k (omega (arith, total_meet w A B k)))
    where
      split : Member k (λ p. A p && B p) → Common k A B
      split m =
          record {
            at = m.at;
            low = m.low;
            high = m.high;
            left = and_left (A m.at) (B m.at) m.holds;
            right = and_right (A m.at) (B m.at) m.holds;
          }

  module _ (H : ℕ → Bool) where
    -- a set heavier than the liars has an honest member
    pub honest_member : (A : ℕ → Bool) → total w (λ p. not (H p)) k < total w A k → Common k A H
    honest_member A h = common_member A H (omega (arith, total_not w H k))

    -- two sets that together weigh more than the whole and the liars have an honest member in common
    pub honest_common : (A B : ℕ → Bool) → total w everyone k + total w (λ p. not (H p)) k < total w A k + total w B k → HonestCommon k A B H
    honest_common A B h = split (honest_member (λ p. A p && B p) (omega (arith, total_meet w A B k)))
      where
        split : Common k (λ p. A p && B p) H → HonestCommon k A B H
        split m =
            record {
              at = m.at;
              low = m.low;
              high = m.high;
              left = and_left (A m.at) (B m.at) m.left;
              right = and_right (A m.at) (B m.at) m.left;
              honest = m.right;
            }

-- everyone's count is k
pub count_everyone : (k : ℕ) → count everyone k ≡ k
unfolding total
count_everyone zero = refl
count_everyone (suc k) = omega (arith, count_everyone k)

pub count_le : (M : ℕ → Bool) (k : ℕ) → count M k ≤ k
count_le M k = omega (arith, total_whole (λ p. 1) M k, count_everyone k)

-- a count of all is everyone
pub count_all : (M : ℕ → Bool) (k p : ℕ) → count M k ≡ k → 1 ≤ p → p ≤ k → M p ≡ true
count_all M k p e a b = go (M p) refl
  where
    go : (t : Bool) → M p ≡ t → t ≡ true
    go true f = refl
    go false f =
        let g : not (M p) ≡ true = rw f in
        let one : 1 ≤ count (λ q. not (M q)) k = member_total (λ q. 1) (λ q. not (M q)) k p a b g in
        absurd (omega (arith, total_not (λ q. 1) M k, count_everyone k))

pub all_count : (M : ℕ → Bool) (k : ℕ) → ((p : ℕ) → 1 ≤ p → p ≤ k → M p ≡ true) → count M k ≡ k
all_count M k f = omega (arith, total_agree (λ p. 1) M everyone k f, count_everyone k)

-- a part of U with no member among 1 to k weighs no more than those of U above k
pub total_above : (w : ℕ → ℕ) (M U : ℕ → Bool) (k n : ℕ) → k ≤ n → Within n M U → ((p : ℕ) → 1 ≤ p → p ≤ k → M p ≡ false) → total w M n + total w U k ≤ total w U n
unfolding total
total_above w M U k zero h g f = let e : k ≡ 0 = omega arith in rw e (omega arith)
total_above w M U k (suc n) h g f = go (dec_le k n) (λ l. total_above w M U k n l (λ p a b. g p a (omega arith)) f)
  where
    go : Dec (k ≤ n) → (k ≤ n → total w M n + total w U k ≤ total w U n) → total w M (suc n) + total w U k ≤ total w U (suc n)
    go (yes l) r = omega (arith, r l, share_mono (M (suc n)) (U (suc n)) (w (suc n)) (g (suc n) (omega arith) (omega arith)))
    go (no l) r = let e : k ≡ suc n = omega arith in omega (arith, total_none w M (suc n) (λ p a b. f p a (omega arith)), ap (total w U) e)
