-- One step after the other, from step 1 on.
use Rattle.std.specs.Prelude.{ℕ, zero, suc}

-- x after the steps 1 to n
unfoldable pub steps : {A : Type 0} → (ℕ → A → A) → ℕ → A → A
steps f zero x = x
steps f (suc n) x = f (suc n) (steps f n x)
