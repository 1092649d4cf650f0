-- Weights of 1.
use Rattle.std.specs.Prelude.{ℕ, ◌-◌, ◌^◌, ◌≤◌, true, ◌≡◌, refl, eqb}
use Rattle.std.proofs.Common.{eqb-true}
use Rattle.quorum.specs.Every.{every}
use Rattle.quorum.specs.laws.Every.{every_each}
use Rattle.quorum.specs.Marks.{mark, with_mark}
use Rattle.quorum.specs.Packed.{mark_if, with_weight, packed}
use Rattle.records.specs.Words.{word}
use Rattle.opening.specs.Given.{item, weight_given, weights_given, weights_word, ones_given}

ones_checked : every (λ n. eqb (weights_word n (ones_given n)) (2 ^ n - 1)) 16 ≡ true
unfolding every ones_given weights_word weights_given weight_given item word packed with_weight mark_if with_mark mark
ones_checked = refl

-- as one word they are 2 ^ n − 1
pub ones_word_lem : (n : ℕ) → 1 ≤ n → n ≤ 16 → weights_word n (ones_given n) ≡ 2 ^ n - 1
ones_word_lem n lo hi = eqb-true (weights_word n (ones_given n)) (2 ^ n - 1) (every_each (λ m. eqb (weights_word m (ones_given m)) (2 ^ m - 1)) 16 ones_checked n lo hi)
