-- Liars cannot fill a set alone, as claims about a whole list of calls under the conditions of specs/DemandThree.antt (PROTOCOL 16.18, 16.19): each
-- set that is named or in force holds the input of an honest one, and no vote is decided 1 whose broadcast had no output at an honest one before.
-- The claims are made of any machine, and of the engine: of sessions of both versions, with printed coins and boxed ones, restores among the calls.
use Rattle.std.specs.Prelude.{ℕ, ◌≤◌, Bool}
use mathlib.Core.List.{List, Memᴰ}
use Rattle.settings.specs.declared.Settings.{Settings}
use Rattle.calls.specs.Machine.{Machine, Call, words}
use Rattle.calls.specs.Engine.{engine}
use Rattle.agreement.specs.Honest.{liars, Honest}
use Rattle.agreement.specs.Moments.{Within, Before}
use Rattle.agreement.specs.DemandThree.{Shows, Opened, Conditions}

-- of the calls on the buffers `start`
module _ (M : Machine) (start : ℕ → M.Words) (S : M.Session) (H : ℕ → Bool) where
  -- X holds what an honest one that is opened put in (PROTOCOL 16.10)
  pub record HonestInput (cs : List (Call M)) (X : List ℕ) : Type 0 where
    pub who : ℕ
    pub honest : Honest (M.settings S) H who
    pub opened : Opened M start cs who
    pub holds : Memᴰ (M.input opened.given) X

  -- broadcast i had output strictly before, at an honest one that was opened then
  pub record OutputBefore (cs : List (Call M)) (i : ℕ) : Type 0 where
    pub past : List (Call M)
    pub before : Before past cs
    pub who : ℕ
    pub honest : Honest (M.settings S) H who
    pub opened : Opened M start past who
    pub value : ℕ
    pub outputs : M.Outputs (words M start past who) i value

-- ---- the claims

-- with liars of weight up to a limit, each set named or in force, at any honest one and after any call of the list, holds an honest input
unfoldable pub HoldsInput : (Settings → ℕ) → Machine → Type 0
HoldsInput limit M =
    (S : M.Session) (H : ℕ → Bool) → liars (M.settings S) H ≤ limit (M.settings S) →
    (start : ℕ → M.Words) (cs : List (Call M)) → Conditions M start S H cs →
    (ds : List (Call M)) → Within ds cs →
    (p : ℕ) → Opened M start ds p → (X : List ℕ) → Shows M (words M start ds p) X → HonestInput M start S H ds X

-- every set has an honest pack (PROTOCOL 16.18)
pub record HonestPack (M : Machine) : Type 0 where
  -- what is asked, under the limit of PROTOCOL 16.8
  pub few_liars : HoldsInput (λ g. g.ta) M
  -- and it holds under that of 16.9 and 16.10
  pub more_liars : HoldsInput (λ g. g.ts) M

-- with liars of weight up to ta, where a vote is decided 1 at an honest one after any call of the list, the broadcast of that number had output at
-- an honest one after an earlier call (PROTOCOL 16.19)
unfoldable pub OutputFirst : Machine → Type 0
OutputFirst M =
    (S : M.Session) (H : ℕ → Bool) → liars (M.settings S) H ≤ (M.settings S).ta →
    (start : ℕ → M.Words) (cs : List (Call M)) → Conditions M start S H cs →
    (ds : List (Call M)) → Within ds cs →
    (p : ℕ) → Opened M start ds p → (i : ℕ) → 1 ≤ i → i ≤ (M.settings S).n → M.DecidedOne (words M start ds p) i → OutputBefore M start S H ds i

-- of the engine
abbrev pub EngineHonestPack : Type 0
EngineHonestPack = HonestPack engine

abbrev pub EngineOutputFirst : Type 0
EngineOutputFirst = OutputFirst engine
