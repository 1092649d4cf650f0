-- Whatever says what `step` gives, nothing is due at 1 to k.
use Rattle.std.specs.Prelude.{ℕ, ◌≤◌, ◌≡◌}
use Rattle.acts.specs.declared.Act.{Act}
use Rattle.acts.specs.laws.First.{Quiet}
use Rattle.acts.proofs.first_due.Given as goal

abbrev pub invariant-loop-k : goal.invariant-loop-k
invariant-loop-k g l = (f : ℕ → Act) → ((i : ℕ) (a : Act) → 1 ≤ i → i ≤ l.n → goal.F-post g l.step i a → a ≡ f i) → Quiet f l.n l.k
