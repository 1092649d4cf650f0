-- The word of packed weights holds each weight.
use Prim.Native.Nat.{ℕ, zero, suc, ◌+◌, ◌*◌, ◌≤◌, ◌<◌}
use Rattle.std.specs.Prelude.{Bool, true, ◌≢◌, ◌≡◌, refl, leb}
use Rattle.std.proofs.Math.Bool.{false}
use Rattle.std.proofs.Common.{sym, subst, ◌∙◌, arith}
use Rattle.std.proofs.Math.Decide.{dec_le}
use borrow.Author.Tests.{le-leb}
use Rattle.quorum.specs.Marks.{mark}
use Rattle.quorum.specs.laws.Marks.{mark_same, mark_other, mark_zero}
use Rattle.quorum.specs.Total.{share}
use Rattle.quorum.specs.Weights.{weight_of}
use Rattle.quorum.specs.Packed.{mark_if, with_weight, packed}

if_other : (b : Bool) (w k j : ℕ) → j ≢ k → mark (mark_if b w k) j ≡ mark w j
unfolding mark_if
if_other true w k j ne = mark_other w k j ne
if_other false w k j ne = refl

if_same : (b : Bool) (w k : ℕ) → 1 ≤ k → k ≤ 64 → mark w k ≡ false → mark (mark_if b w k) k ≡ b
unfolding mark_if
if_same true w k lo hi e = mark_same w k lo hi
if_same false w k lo hi e = e

module _ (w p x : ℕ) (lo : 1 ≤ p) (hi : p ≤ 16) where
  abbrev first : ℕ
  first = mark_if (leb 1 x) w (0 + p)

  abbrev second : ℕ
  second = mark_if (leb 2 x) first (16 + p)

  abbrev third : ℕ
  third = mark_if (leb 3 x) second (32 + p)

  with_other : (j : ℕ) → j ≢ 0 + p → j ≢ 16 + p → j ≢ 32 + p → j ≢ 48 + p → mark (with_weight w p x) j ≡ mark w j
  unfolding with_weight
  with_other j a b c d =
      if_other (leb 4 x) third (48 + p) j d ∙ if_other (leb 3 x) second (32 + p) j c ∙ if_other (leb 2 x) first (16 + p) j b ∙ if_other (leb 1 x) w (0 + p) j a

  module _ (clear : (k : ℕ) → k ≤ 3 → mark w (16 * k + p) ≡ false) where
    with_first : mark (with_weight w p x) (0 + p) ≡ leb 1 x
    unfolding with_weight
    with_first =
        if_other (leb 4 x) third (48 + p) (0 + p) (λ z. omega arith)
        ∙ if_other (leb 3 x) second (32 + p) (0 + p) (λ z. omega arith)
        ∙ if_other (leb 2 x) first (16 + p) (0 + p) (λ z. omega arith)
        ∙ if_same (leb 1 x) w (0 + p) (omega arith) (omega arith) (clear 0 (omega arith))

    with_second : mark (with_weight w p x) (16 + p) ≡ leb 2 x
    unfolding with_weight
    with_second =
        if_other (leb 4 x) third (48 + p) (16 + p) (λ z. omega arith)
        ∙ if_other (leb 3 x) second (32 + p) (16 + p) (λ z. omega arith)
        ∙ if_same (leb 2 x) first (16 + p) (omega arith) (omega arith) (if_other (leb 1 x) w (0 + p) (16 + p) (λ z. omega arith) ∙ clear 1 (omega arith))

    with_third : mark (with_weight w p x) (32 + p) ≡ leb 3 x
    unfolding with_weight
    with_third =
        if_other (leb 4 x) third (48 + p) (32 + p) (λ z. omega arith)
        ∙ if_same (leb 3 x) second (32 + p) (omega arith) (omega arith)
        (if_other (leb 2 x) first (16 + p) (32 + p) (λ z. omega arith) ∙ if_other (leb 1 x) w (0 + p) (32 + p) (λ z. omega arith) ∙ clear 2 (omega arith))

    with_fourth : mark (with_weight w p x) (48 + p) ≡ leb 4 x
    unfolding with_weight
    with_fourth =
        if_same (leb 4 x) third (48 + p) (omega arith) (omega arith)
        (if_other (leb 3 x) second (32 + p) (48 + p) (λ z. omega arith)
        ∙ if_other (leb 2 x) first (16 + p) (48 + p) (λ z. omega arith)
        ∙ if_other (leb 1 x) w (0 + p) (48 + p) (λ z. omega arith)
        ∙ clear 3 (omega arith))

-- no marks of numbers above n
module _ (f : ℕ → ℕ) where
  clear_above : (n q k : ℕ) → n < q → q ≤ 16 → k ≤ 3 → mark (packed f n) (16 * k + q) ≡ false
  unfolding packed
  clear_above zero q k l h g = mark_zero (16 * k + q)
  clear_above (suc n) q k l h g =
      with_other (packed f n) (suc n) (f (suc n)) (omega arith) (omega arith) (16 * k + q)
      (λ z. omega arith) (λ z. omega arith) (λ z. omega arith) (λ z. omega arith)
      ∙ clear_above n q k (omega arith) h g

groups_of : (x : ℕ) → x ≤ 4 → share (leb 1 x) 1 + share (leb 2 x) 1 + share (leb 3 x) 1 + share (leb 4 x) 1 ≡ x
groups_of zero l = refl
groups_of (suc zero) l = refl
groups_of (suc (suc zero)) l = refl
groups_of (suc (suc (suc zero))) l = refl
groups_of (suc (suc (suc (suc zero)))) l = refl
groups_of (suc (suc (suc (suc (suc x))))) l = absurd (omega arith)

module _ (f : ℕ → ℕ) where
  weight_same : (n p : ℕ) → 1 ≤ p → p ≤ n → suc n ≤ 16 → weight_of (packed f (suc n)) p ≡ weight_of (packed f n) p
  unfolding packed weight_of
  weight_same n p lo hi few =
      let other : (k : ℕ) → k ≤ 3 → mark (with_weight (packed f n) (suc n) (f (suc n))) (16 * k + p) ≡ mark (packed f n) (16 * k + p) = λ k h. with_other (packed f n) (suc n) (f (suc n)) (omega arith) few (16 * k + p) (λ z. omega arith) (λ z. omega arith) (λ z. omega arith) (λ z. omega arith) in
      rw (other 0 (omega arith), other 1 (omega arith), other 2 (omega arith), other 3 (omega arith))

  weight_new : (n : ℕ) → suc n ≤ 16 → f (suc n) ≤ 4 → weight_of (packed f (suc n)) (suc n) ≡ f (suc n)
  unfolding packed weight_of
  weight_new n few small =
      let clear : (k : ℕ) → k ≤ 3 → mark (packed f n) (16 * k + suc n) ≡ false = λ k h. clear_above f n (suc n) k (omega arith) few h in
      rw (
        with_first (packed f n) (suc n) (f (suc n)) (omega arith) few clear,
        with_second (packed f n) (suc n) (f (suc n)) (omega arith) few clear,
        with_third (packed f n) (suc n) (f (suc n)) (omega arith) few clear,
        with_fourth (packed f n) (suc n) (f (suc n)) (omega arith) few clear,
      )
      (rw (le-leb 1 (suc n) (omega arith), le-leb (suc n) 16 few) (groups_of (f (suc n)) small))

  -- each weight is read back
  pub weight_packed : (n p : ℕ) → 1 ≤ p → p ≤ n → n ≤ 16 → f p ≤ 4 → weight_of (packed f n) p ≡ f p
  weight_packed zero p lo hi few small = absurd (omega arith)
  weight_packed (suc n) p lo hi few small = at (dec_le p n) (λ l. weight_packed n p lo l (omega arith) small)
    where
      at : Dec (p ≤ n) → (p ≤ n → weight_of (packed f n) p ≡ f p) → weight_of (packed f (suc n)) p ≡ f p
      at (yes l) r = weight_same n p lo l few ∙ r l
      at (no l) r = let e : suc n ≡ p = omega arith in subst (λ (k : ℕ). weight_of (packed f (suc n)) k ≡ f k) e (weight_new n few (subst (λ (k : ℕ). f k ≤ 4) (sym e) small))
