-- The first act due of what a step gives at 1 to n.
use Rattle.std.specs.Prelude.{ℕ, ◌≤◌, ◌≡◌}
use Rattle.acts.specs.Acts.{first_act}
use Rattle.acts.specs.declared.Act.{Act}

-- r is the first due of 1 to n by each f that says what is given there
abbrev pub FirstOf : (ℕ → Act → Type 0) → ℕ → Act → Type 0
FirstOf gives n r = (f : ℕ → Act) → ((i : ℕ) (a : Act) → 1 ≤ i → i ≤ n → gives i a → a ≡ f i) → r ≡ first_act f n
