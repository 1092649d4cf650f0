-- An example for agreement: a list of calls that meets all its conditions, after which every honest concentrator names a set and has it in
-- force.
use Rattle.std.specs.Prelude.{ℕ, ◌≤◌, Bool, true, List, ◌∷◌, ◌≡◌, length}
use Rattle.records.specs.Layout.{state_words}
use Rattle.agreement.specs.Honest.{liars, Honest}
use Rattle.agreement.specs.Moments.{Within}
use Rattle.calls.specs.Machine.{Call, opening, words}
use Rattle.agreement.specs.DemandThree.{Opened, Conditions}
use Rattle.calls.specs.Engine.{engine, OpeningGiven, Agreed, ReportNames, ReportEnforces}

-- p is opened, Exit k names the set X, and X is in force
pub record Shown (start : ℕ → List ℕ) (cs : List (Call engine)) (p k : ℕ) (X : List ℕ) : Type 0 where
  pub opened : Opened engine start cs p
  pub named : ReportNames (words engine start cs p) X
  pub exit : named.figures.exit ≡ k
  pub by_in_force : ReportEnforces (words engine start cs p) X

-- what is supposed of a list in the session S, where H tells who is honest, with liars of up to ts; v tells what each one that is opened puts in
pub record Supposed (start : ℕ → List ℕ) (S : Agreed) (H : ℕ → Bool) (v : ℕ → ℕ) (cs : List (Call engine)) : Type 0 where
  pub few_ts : liars S.settings H ≤ S.settings.ts
  pub conditions : Conditions engine start S H cs
  pub put_in : (p : ℕ) (o : OpeningGiven) (ds : List (Call engine)) → Within (opening p o ∷ ds) cs → engine.own o ≡ p → engine.opens (words engine start ds p) o ≡ true → engine.input o ≡ v p

-- with liars of up to ta, all honest ones end with the set X, which Exit k names
pub record Example (start : ℕ → List ℕ) (S : Agreed) (H : ℕ → Bool) (v : ℕ → ℕ) (cs : List (Call engine)) (k : ℕ) (X : List ℕ) : Type 0 where
  pub few_ta : liars S.settings H ≤ S.settings.ta
  pub supposed : Supposed start S H v cs
  pub shown : (p : ℕ) → Honest S.settings H p → Shown start cs p k X

-- the buffers of the honest ones hold 2,048 words at the start
abbrev pub Sized : (ℕ → List ℕ) → Agreed → (ℕ → Bool) → Type 0
Sized start S H = (p : ℕ) → Honest S.settings H p → length (start p) ≡ state_words

-- .. and whatever words these are
abbrev pub FromAny : Agreed → (ℕ → Bool) → ((ℕ → List ℕ) → Type 0) → Type 0
FromAny S H P = (start : ℕ → List ℕ) → Sized start S H → P start
