-- Marks of a set of numbers, as one word.
use Rattle.std.specs.Prelude.{ℕ, ◌<◌, ◌≤◌, Bool, false, ◌≡◌}
use Rattle.quorum.specs.Marks.{mark}

-- m has the marks of those of 1 to n that are in M, as far as a word goes, and no other
pub record MarksOf (M : ℕ → Bool) (n m : ℕ) : Type 0 where
  pub each : (p : ℕ) → 1 ≤ p → p ≤ n → p ≤ 64 → mark m p ≡ M p
  pub none : (p : ℕ) → n < p → mark m p ≡ false
