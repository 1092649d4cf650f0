-- `value_at` is the value of the definition: the tests that led to a return say whether the part holds it.
use Prim.Native.Nat.{ℕ, ◌<◌, ◌≤◌, ◌*◌, ◌-◌}
use mathlib.Core.Path.{◌≡◌, ap, sym, ◌∙◌}
use mathlib.Core.List.{List}
use native.Mathlib.Omega.{arith}
use lib.ListN.{length}
use Rattle.wire.specs.Bytes.{be8, value_at}
use Rattle.wire.proofs.Laws.{value_held, value_missing}
use Rattle.wire.proofs.reading.value_at.Goals as goal

module _ (v : List ℕ) (k : ℕ) where
  none : k ≡ 0 → 0 ≡ value_at v k
  unfolding value_at
  none e = rw e

  missing : (n : ℕ) → n ≡ k → (k ≡ 0 → ⊥) → length v < 8 * n → 0 ≡ value_at v k
  missing n e p h = sym (value_missing v k (omega arith) (omega arith))

  held : (r n : ℕ) → n ≡ k → (k ≡ 0 → ⊥) → 8 * n ≤ length v → r ≡ be8 v (8 * n - 8) → r ≡ value_at v k
  held r n e p h q = q ∙ ap (λ j. be8 v (8 * j - 8)) e ∙ sym (value_held v k (omega arith) (omega arith))

pub returns-then-k-eq0 : goal.returns-then-k-eq0
returns-then-k-eq0 c = search none

pub returns-then-values-end : goal.returns-then-values-end
returns-then-values-end c = search missing

pub returns : goal.returns
returns c = search held
