-- The weight of all, and weights of 1 to 4.
use Rattle.std.specs.Prelude.{ℕ, Bool, ◌&&◌, leb}
use Rattle.quorum.specs.Total.{everyone}
use Rattle.quorum.specs.Every.{every}
use Rattle.quorum.specs.Weights.{weight_of, weigh}

-- W, the sum of the weights of 1 to n (PROTOCOL 1.5)
unfoldable pub whole_of : ℕ → ℕ → ℕ
whole_of w n = weigh w everyone n

-- a weight is 1 to 4 (PROTOCOL 1.5)
unfoldable pub weight_right : ℕ → ℕ → Bool
weight_right w p = leb 1 (weight_of w p) && leb (weight_of w p) 4

unfoldable pub weights_right : ℕ → ℕ → Bool
weights_right w n = every (λ p. weight_right w p) n
