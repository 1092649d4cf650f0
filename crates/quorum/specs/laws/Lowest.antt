-- `lowest` tells the first number that passes, or that none does, and what the loops keep that search it.
use Prim.Native.Nat.{ℕ, zero, suc, ◌+◌, ◌≤◌, ◌<◌}
use Rattle.std.specs.Prelude.{Bool, ◌≡◌, ◌≢◌, eqb}
use Rattle.std.proofs.Math.Bool.{true, false, cond}
use Rattle.std.proofs.Math.Path.{refl, subst}
use Rattle.std.proofs.Common.{sym, ◌∙◌}
use native.Mathlib.Omega.{arith}
use Rattle.std.proofs.Math.Decide.{dec_le}
use borrow.Author.Tests.{ne_eqb, eqb-true, eqb-false}
use Rattle.quorum.specs.Lowest.{lowest}

-- no p of 1 to k has f p
abbrev pub NoneUpTo : (ℕ → Bool) → ℕ → Type 0
NoneUpTo f k = (p : ℕ) → 1 ≤ p → p ≤ k → f p ≡ false

none_next : (f : ℕ → Bool) (k : ℕ) → NoneUpTo f k → f (k + 1) ≡ false → NoneUpTo f (k + 1)
none_next f k h e p a b = go (dec_le p k)
  where
    go : Dec (p ≤ k) → f p ≡ false
    go (yes l) = h p a l
    go (no l) = let s : k + 1 ≡ p = omega arith in subst (λ (m : ℕ). f m ≡ false) s e

-- p is the least of 1 to n with f p
pub record Lowest (f : ℕ → Bool) (n p : ℕ) : Type 0 where
  pub low : 1 ≤ p
  pub high : p ≤ n
  pub holds : f p ≡ true
  pub first : (q : ℕ) → 1 ≤ q → q < p → f q ≡ false

module _ (f : ℕ → Bool) where
  pub none_lowest : (n : ℕ) → NoneUpTo f n → lowest f n ≡ 0
  unfolding lowest
  none_lowest zero h = refl
  none_lowest (suc n) h =
      let e : lowest f n ≡ 0 = none_lowest n (λ p a b. h p a (omega arith)) in
      rw (e, h (suc n) (omega arith) (omega arith))

  pub lowest_at : (n p : ℕ) → Lowest f n p → lowest f n ≡ p
  unfolding lowest
  lowest_at zero p x = absurd (omega arith)
  lowest_at (suc n) p x = go (dec_le p n) (λ y. lowest_at n p y)
    where
      go : Dec (p ≤ n) → (Lowest f n p → lowest f n ≡ p) → cond (eqb (lowest f n) 0) (cond (f (suc n)) (suc n) 0) (lowest f n) ≡ p
      go (yes l) r =
          let e : lowest f n ≡ p = r (record { low = x.low; high = l; holds = x.holds; first = x.first }) in
          rw (e, ne_eqb p 0 (λ z. omega arith))
      go (no l) r =
          let s : suc n ≡ p = omega arith in
          let e : lowest f n ≡ 0 = none_lowest n (λ q a b. x.first q a (omega arith)) in
          rw (e, s, x.holds)

  pub lowest_none : (n : ℕ) → lowest f n ≡ 0 → NoneUpTo f n
  unfolding lowest
  lowest_none zero e p a b = absurd (omega arith)
  lowest_none (suc n) e p a b = go (lowest f n) refl (f (suc n)) refl e (λ h. lowest_none n h) (dec_le p n)
    where
      go : (l : ℕ) → lowest f n ≡ l → (t : Bool) → f (suc n) ≡ t → cond (eqb l 0) (cond t (suc n) 0) l ≡ 0 → (lowest f n ≡ 0 → NoneUpTo f n) → Dec (p ≤ n) → f p ≡ false
      go zero x true y z r d = absurd (omega arith)
      go zero x false y z r (yes d) = r x p a d
      go zero x false y z r (no d) = let s : suc n ≡ p = omega arith in subst (λ (m : ℕ). f m ≡ false) s y
      go (suc l) x t y z r d = let s : suc l ≡ 0 = rw (ne_eqb (suc l) 0 (λ m. omega arith)) at z in absurd (omega arith)

  pub lowest_is : (n p : ℕ) → lowest f n ≡ p → p ≢ 0 → Lowest f n p
  unfolding lowest
  lowest_is zero p e ne = absurd (ne (sym e))
  lowest_is (suc n) p e ne = go (lowest f n) refl (f (suc n)) refl e (λ h. lowest_is n p h ne)
    where
      go : (l : ℕ) → lowest f n ≡ l → (t : Bool) → f (suc n) ≡ t → cond (eqb l 0) (cond t (suc n) 0) l ≡ p → (lowest f n ≡ p → Lowest f n p) → Lowest f (suc n) p
      go zero x true y z r =
          let before : NoneUpTo f n = lowest_none n x in
          subst (λ (m : ℕ). Lowest f (suc n) m) z
          (record { low = omega arith; high = omega arith; holds = y; first = λ q a b. before q a (omega arith) })
      go zero x false y z r = absurd (ne (sym z))
      go (suc l) x t y z r =
          let s : suc l ≡ p = rw (ne_eqb (suc l) 0 (λ m. omega arith)) at z in
          let was : Lowest f n p = r (x ∙ s) in
          record { low = was.low; high = omega arith; holds = was.holds; first = was.first }

  pub lowest_le : (n : ℕ) → lowest f n ≤ n
  lowest_le n = go (eqb (lowest f n) 0) refl
    where
      go : (b : Bool) → eqb (lowest f n) 0 ≡ b → lowest f n ≤ n
      go true e = omega (arith, eqb-true (lowest f n) 0 e)
      go false e = (lowest_is n (lowest f n) refl (eqb-false (lowest f n) 0 e)).high

-- properties that agree on 1 to n have the same lowest
pub lowest_agree : (f g : ℕ → Bool) (n : ℕ) → ((p : ℕ) → 1 ≤ p → p ≤ n → f p ≡ g p) → lowest f n ≡ lowest g n
unfolding lowest
lowest_agree f g zero h = refl
lowest_agree f g (suc n) h =
    let e : lowest f n ≡ lowest g n = lowest_agree f g n (λ p a b. h p a (omega arith)) in
    rw (e, h (suc n) (omega arith) (omega arith))

-- a loop `for k in 0..n { if test(k + 1) { return .. } }` that has passed 1 to k
pub record Passed (f : ℕ → Bool) (n k : ℕ) : Type 0 where
  pub within : k ≤ n
  pub none : NoneUpTo f k

pub passed_start : (f : ℕ → Bool) (n : ℕ) → Passed f n 0
passed_start f n = record { within = omega arith; none = λ p a b. absurd (omega arith) }

pub passed_next : (f : ℕ → Bool) (n k : ℕ) (b : Bool) → Passed f n k → k < n → b ≡ f (k + 1) → b ≡ false → Passed f n (k + 1)
passed_next f n k b i l e t = record { within = omega arith; none = none_next f k i.none (sym e ∙ t) }

pub passed_found : (f : ℕ → Bool) (n k : ℕ) (b : Bool) → Passed f n k → k < n → b ≡ f (k + 1) → b ≡ true → k + 1 ≡ lowest f n
passed_found f n k b i l e t =
    sym (lowest_at f n (k + 1) (record { low = omega arith; high = omega arith; holds = sym e ∙ t; first = λ q a c. i.none q a (omega arith) }))

pub passed_missing : (f : ℕ → Bool) (n k : ℕ) → Passed f n k → n ≤ k → 0 ≡ lowest f n
passed_missing f n k i l = sym (none_lowest f n (λ p a b. i.none p a (omega arith)))

pub ruleset finding = (passed_start, passed_next, passed_found, passed_missing)
