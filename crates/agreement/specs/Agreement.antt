-- Agreement over lawful histories (PROTOCOL 16.8 to 16.10): sets that exits name or that are in force are one and the same, none is in force
-- that exits had not named before, and with equal inputs only the set of that input is shown.
use Rattle.std.specs.Prelude.{ℕ, List, [], ◌∷◌, ◌≡◌}
use Rattle.agreement.specs.Evidence.{World, whole, Sound, Honest, Backed}
use Rattle.agreement.specs.History.{send, commit, History, Single, Did, Naming, Lawful}
use Rattle.agreement.specs.Moments.{Within, Before}

-- a set is in force where its COMMITs are a quorum (PROTOCOL 7.4)
abbrev pub InForce : World → History → List ℕ → Type 0
InForce W h X = Backed W (whole W) W.settings.ts (λ m. Did h m (commit X))

-- after h, X is named by somebody's exits, or in force
pub data Shown (W : World) (h : History) (X : List ℕ) : Type 0 where
  by_exits : (p : ℕ) → Naming W h X p → Shown W h X
  by_in_force : InForce W h X → Shown W h X

-- somebody's exits named X strictly before h
pub record NamedBefore (W : World) (h : History) (X : List ℕ) : Type 0 where
  pub past : History
  pub before : Before past h
  pub who : ℕ
  pub naming : Naming W past X who

-- with up to ta liars all sets shown at any moments of a lawful history are one
unfoldable pub Agree : Type 0
Agree =
    (W : World) → Sound W W.settings.ta →
    (out : History) → Single (Did out) →
    (h : History) → Lawful W (Did out) h →
    (k l : History) → Within k h → Within l h →
    (X Y : List ℕ) → Shown W k X → Shown W l Y → X ≡ Y

-- with up to ts liars no set is in force that exits had not named before
unfoldable pub Named : Type 0
Named =
    (W : World) → Sound W W.settings.ts →
    (out h : History) → Lawful W (Did out) h →
    (X : List ℕ) → InForce W h X → NamedBefore W h X

-- with up to ts liars, where all honest ones sent v, only the set holding v alone is shown
unfoldable pub Valid : Type 0
Valid =
    (W : World) → Sound W W.settings.ts →
    (out h : History) → Lawful W (Did out) h →
    (v : ℕ) → ((i u : ℕ) → Honest W i → Did h i (send u) → u ≡ v) →
    (X : List ℕ) → Shown W h X → X ≡ v ∷ []
