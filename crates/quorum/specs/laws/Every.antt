-- `every` tells that each number passes.
use Prim.Native.Nat.{ℕ, zero, suc, ◌+◌, ◌≤◌}
use Rattle.std.specs.Prelude.{Bool, false, ◌&&◌, ◌≡◌}
use Rattle.std.proofs.Math.Bool.{true}
use Rattle.std.proofs.lemmas.Bool.{false≢true}
use Rattle.std.proofs.Math.Path.{refl, subst}
use Rattle.std.proofs.Common.{sym, ◌∙◌}
use native.Mathlib.Omega.{arith}
use Rattle.std.proofs.Math.Decide.{dec_le}
use Rattle.quorum.specs.laws.Bools.{and_left, and_right, and_both, and_cross}
use Rattle.quorum.specs.Every.{every}

-- each p of 1 to k has f p
abbrev pub Each : (ℕ → Bool) → ℕ → Type 0
Each f k = (p : ℕ) → 1 ≤ p → p ≤ k → f p ≡ true

each_next : (f : ℕ → Bool) (k : ℕ) → Each f k → f (k + 1) ≡ true → Each f (k + 1)
each_next f k h e p a b = go (dec_le p k)
  where
    go : Dec (p ≤ k) → f p ≡ true
    go (yes l) = h p a l
    go (no l) = let s : k + 1 ≡ p = omega arith in subst (λ (m : ℕ). f m ≡ true) s e

module _ (f : ℕ → Bool) where
  pub each_every : (n : ℕ) → Each f n → every f n ≡ true
  unfolding every
  each_every zero h = refl
  each_every (suc n) h = and_both (every f n) (f (suc n)) (each_every n (λ p a b. h p a (omega arith))) (h (suc n) (omega arith) (omega arith))

  pub every_each : (n : ℕ) → every f n ≡ true → Each f n
  unfolding every
  every_each zero e p a b = absurd (omega arith)
  every_each (suc n) e p a b = go (every_each n (and_left (every f n) (f (suc n)) e)) (and_right (every f n) (f (suc n)) e) (dec_le p n)
    where
      go : Each f n → f (suc n) ≡ true → Dec (p ≤ n) → f p ≡ true
      go h t (yes l) = h p a l
      go h t (no l) = let s : suc n ≡ p = omega arith in subst (λ (m : ℕ). f m ≡ true) s t

  -- one that fails
  pub every_fails : (n p : ℕ) → 1 ≤ p → p ≤ n → f p ≡ false → every f n ≡ false
  every_fails n p a b e = go (every f n) refl
    where
      go : (t : Bool) → every f n ≡ t → t ≡ false
      go true h = absurd (false≢true (sym e ∙ every_each n h p a b))
      go false h = refl

pub every_agree : (f g : ℕ → Bool) (n : ℕ) → ((p : ℕ) → 1 ≤ p → p ≤ n → f p ≡ g p) → every f n ≡ every g n
unfolding every
every_agree f g zero h = refl
every_agree f g (suc n) h =
    let e : every f n ≡ every g n = every_agree f g n (λ p a b. h p a (omega arith)) in
    rw (e, h (suc n) (omega arith) (omega arith))

-- two properties asked in one walk
pub every_both : (f g : ℕ → Bool) (n : ℕ) → every (λ p. f p && g p) n ≡ every f n && every g n
unfolding every
every_both f g zero = refl
every_both f g (suc n) =
    let e : every (λ p. f p && g p) n ≡ every f n && every g n = every_both f g n in
    rw e (and_cross (every f n) (every g n) (f (suc n)) (g (suc n)))
