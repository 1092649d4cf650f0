-- Bounds of weights that are right, and of their sum.
use Rattle.std.specs.Prelude.{ℕ, zero, suc, ◌-◌, ◌*◌, ◌^◌, ◌≤◌, Bool, true, ◌≡◌, refl, leb, eqb}
use Rattle.std.proofs.Common.{◌∙◌, arith, leb-true, eqb-true}
use Rattle.quorum.specs.laws.Bools.{and_left, and_right}
use Rattle.quorum.specs.Marks.{mark}
use Rattle.quorum.specs.Total.{total, count, everyone}
use Rattle.quorum.specs.laws.Total.{count_everyone}
use Rattle.quorum.specs.Every.{every}
use Rattle.quorum.specs.laws.Every.{every_each}
use Rattle.quorum.specs.Weights.{weight_of, weigh}
use Rattle.quorum.specs.Whole.{whole_of, weight_right, weights_right}

pub weight_high : (w n : ℕ) → weights_right w n ≡ true → (p : ℕ) → 1 ≤ p → p ≤ n → weight_of w p ≤ 4
unfolding weights_right weight_right
weight_high w n e p lo hi = leb-true (weight_of w p) 4 (and_right (leb 1 (weight_of w p)) (leb (weight_of w p) 4) (every_each (λ q. weight_right w q) n e p lo hi))

pub weight_low : (w n : ℕ) → weights_right w n ≡ true → (p : ℕ) → 1 ≤ p → p ≤ n → 1 ≤ weight_of w p
unfolding weights_right weight_right
weight_low w n e p lo hi = leb-true 1 (weight_of w p) (and_left (leb 1 (weight_of w p)) (leb (weight_of w p) 4) (every_each (λ q. weight_right w q) n e p lo hi))

whole_within : (w n : ℕ) → ((p : ℕ) → 1 ≤ p → p ≤ n → weight_of w p ≤ 4) → weigh w everyone n ≤ 4 * n
unfolding total
whole_within w zero h = omega arith
whole_within w (suc n) h = omega (arith, whole_within w n (λ p a b. h p a (omega arith)), h (suc n) (omega arith) (omega arith))

pub whole_le : (w n : ℕ) → weights_right w n ≡ true → whole_of w n ≤ 4 * n
unfolding whole_of
whole_le w n e = whole_within w n (weight_high w n e)

-- weights that agree on 1 to k
pub total_weights : (v w : ℕ → ℕ) (M : ℕ → Bool) (k : ℕ) → ((p : ℕ) → 1 ≤ p → p ≤ k → v p ≡ w p) → total v M k ≡ total w M k
unfolding total
total_weights v w M zero h = refl
total_weights v w M (suc k) h =
    let rest : total v M k ≡ total w M k = total_weights v w M k (λ p a b. h p a (omega arith)) in
    rw (rest, h (suc k) (omega arith) (omega arith))

ones_checked : every (λ n. every (λ p. eqb (weight_of (2 ^ n - 1) p) 1) n) 16 ≡ true
unfolding every weight_of mark
ones_checked = refl

-- the word of n weights of 1 is 2 ^ n − 1
pub ones_weight : (n p : ℕ) → 1 ≤ p → p ≤ n → n ≤ 16 → weight_of (2 ^ n - 1) p ≡ 1
ones_weight n p lo hi few = eqb-true (weight_of (2 ^ n - 1) p) 1 (every_each (λ q. eqb (weight_of (2 ^ n - 1) q) 1) n (every_each (λ m. every (λ q. eqb (weight_of (2 ^ m - 1) q) 1) m) 16 ones_checked n (omega arith) few) p lo hi)

-- with weights of 1 every weight is a count (PROTOCOL 13.4)
pub ones_count : (n : ℕ) (M : ℕ → Bool) → n ≤ 16 → weigh (2 ^ n - 1) M n ≡ count M n
ones_count n M few = total_weights (weight_of (2 ^ n - 1)) (λ p. 1) M n (λ p lo hi. ones_weight n p lo hi few)

pub ones_whole : (n : ℕ) → n ≤ 16 → whole_of (2 ^ n - 1) n ≡ n
unfolding whole_of
ones_whole n few = ones_count n everyone few ∙ count_everyone n
