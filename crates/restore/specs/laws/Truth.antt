-- Laws of tests.
use Rattle.std.specs.Prelude.{ℕ, Bool, true, false, ◌&&◌, ◌≡◌, refl}
use Rattle.std.proofs.Common.{arith}

pub and_none : (b : Bool) → b && false ≡ false
and_none true = refl
and_none false = refl

pub no_truth : {A : Type 0} → true ≡ false → A
no_truth e = absurd (let z : ◌≡◌ {A = ℕ} 0 1 = cc in omega arith)
