-- The weight of the members of a set among 1 to k, for any weights. With weights of 1 it is their number.
use Rattle.std.specs.Prelude.{ℕ, zero, suc, ◌+◌, Bool, true, false}

-- w where the test passes, else 0
abbrev pub share : Bool → ℕ → ℕ
share true w = w
share false w = 0

-- the weight of the members of M among 1 to k
unfoldable pub total : (ℕ → ℕ) → (ℕ → Bool) → ℕ → ℕ
total w M zero = 0
total w M (suc k) = share (M (suc k)) (w (suc k)) + total w M k

-- how many of 1 to k are members of M
abbrev pub count : (ℕ → Bool) → ℕ → ℕ
count M k = total (λ p. 1) M k

abbrev pub everyone : ℕ → Bool
everyone p = true
