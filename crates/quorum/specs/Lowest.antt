-- The lowest of 1 to n with a property.
use Rattle.std.specs.Prelude.{ℕ, zero, suc, Bool, cond, eqb}

-- the least p of 1 to n with f p, and 0 where there is none
unfoldable pub lowest : (ℕ → Bool) → ℕ → ℕ
lowest f zero = 0
lowest f (suc n) = cond (eqb (lowest f n) 0) (cond (f (suc n)) (suc n) 0) (lowest f n)
