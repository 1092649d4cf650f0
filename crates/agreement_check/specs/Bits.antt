-- The bits that the coin box of the examples tells: the coins of round 1 are 1 in votes 1 and 3, every other coin is 0.
use Rattle.std.specs.Prelude.{ℕ, ◌&&◌, ◌||◌, cond, eqb}

unfoldable pub box_bit : ℕ → ℕ → ℕ
box_bit i r = cond (eqb r 1 && (eqb i 1 || eqb i 3)) 1 0
