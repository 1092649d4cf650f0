-- What a loop keeps that takes one step after the other.
use Rattle.std.specs.Prelude.{ℕ, ◌+◌, ◌≤◌, ◌<◌, ◌≡◌, refl}
use Rattle.std.proofs.Common.{subst, ◌∙◌, arith, add-one}
use Rattle.drill_feeder.specs.Steps.{steps}

-- a loop `k = 0; while k < n { k += 1; x = f(k, x); }` that has done steps 1 to k
pub record Stepping {A : Type 0} (f : ℕ → A → A) (n : ℕ) (x₀ x : A) (k : ℕ) : Type 0 where
  pub within : k ≤ n
  pub reached : x ≡ steps f k x₀

pub stepping_start : {A : Type 0} (f : ℕ → A → A) (n : ℕ) (x : A) → Stepping f n x x 0
unfolding steps
stepping_start f n x = record { within = omega arith; reached = refl }

pub stepping_next : {A : Type 0} (f : ℕ → A → A) (n k : ℕ) (x₀ x y : A) → Stepping f n x₀ x k → k < n → y ≡ f (k + 1) x → Stepping f n x₀ y (k + 1)
unfolding steps
stepping_next f n k x₀ x y h l e = record { within = omega arith; reached = e ∙ rw (h.reached, add-one) }

pub stepping_done : {A : Type 0} (f : ℕ → A → A) (n k : ℕ) (x₀ x : A) → Stepping f n x₀ x k → n ≤ k → x ≡ steps f n x₀
stepping_done {A} f n k x₀ x h l = let e : k ≡ n = omega arith in subst (λ (m : ℕ). x ≡ steps f m x₀) e h.reached

pub ruleset stepping = (stepping_start, stepping_next, stepping_done)
