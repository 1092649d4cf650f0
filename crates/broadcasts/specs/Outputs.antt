-- The outputs of all broadcasts, worked out once: a word of marks, and an array of 16 values.
use Rattle.std.specs.Prelude.{ℕ, ◌-◌, ◌≤◌, ◌<◌, false, ◌&&◌, cond, List, ◌≡◌, leb, length, Option, Some, None}
use Rattle.settings.specs.declared.Settings.{Settings}
use Rattle.quorum.specs.Marks.{mark}
use Rattle.records.specs.Words.{word}
use Rattle.broadcasts.specs.Broadcasts.{output}
use Rattle.broadcasts.specs.declared.OutputTable.{OutputTable}

-- broadcast i has output where its mark is set, and its value stands at place i − 1
unfoldable pub output_at : ℕ → List ℕ → ℕ → Option ℕ
output_at outputs values i = cond (leb i 16 && mark outputs i) (Some (word values (i - 1))) None

-- the outputs that a table says
abbrev pub outputs_in : OutputTable → ℕ → Option ℕ
outputs_in t = output_at t.marks t.values

-- marks and values say the outputs of the broadcasts 1 to k as far as the array goes, which is all of them within the rules, and of no others
pub record Outputs (g : Settings) (s : List ℕ) (k outputs : ℕ) (values : List ℕ) : Type 0 where
  pub within : k ≤ g.n
  pub size : length values ≡ 16
  pub each : (i : ℕ) → 1 ≤ i → i ≤ k → i ≤ 16 → output_at outputs values i ≡ output g s i
  pub none : (i : ℕ) → k < i → mark outputs i ≡ false
