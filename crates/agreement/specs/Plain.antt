-- Sessions with printed coins: there nothing is asked of recordings, which are refused, and in lists without restores nothing of journals. What
-- is asked gives the conditions of specs/DemandThree.antt, so agreement holds of such lists.
use Rattle.std.specs.Prelude.{ℕ, Bool, true, false, List, ◌∷◌, ◌≡◌}
use Rattle.agreement.specs.Honest.{Honest}
use Rattle.agreement.specs.Moments.{Within}
use Rattle.calls.specs.Machine.{Machine, Call, opening, delivery, turn, report, restore, recording, place, words}
use Rattle.agreement.specs.DemandThree.{Opened, Sent, FallsBack, Conditions}
use Rattle.calls.specs.Engine.{engine, Agreed}

module _ (M : Machine) where
  abbrev pub NoRestore : Call M → Type 0
  NoRestore (opening p o) = Unit {0}
  NoRestore (delivery p m b) = Unit {0}
  NoRestore (turn p l) = Unit {0}
  NoRestore (report p r) = Unit {0}
  NoRestore (restore p v r) = ⊥
  NoRestore (recording p x) = Unit {0}

  abbrev pub Plain : List (Call M) → Type 0
  Plain cs = (c : Call M) (ds : List (Call M)) → Within (c ∷ ds) cs → NoRestore c

module _ (M : Machine) (start : ℕ → M.Words) where
  -- what a turn of m, once opened, had sent before (PROTOCOL 16.6)
  pub record Answered (cs : List (Call M)) (m : ℕ) (b : M.Bytes) : Type 0 where
    pub lent : M.Lent
    pub past : List (Call M)
    pub within : Within (turn m lent ∷ past) cs
    pub opened : Opened M start past m
    pub sends : M.Sends (words M start past m) lent b

  -- none is accepted at an opened one
  abbrev pub Once : List (Call M) → Type 0
  Once cs = (p : ℕ) (o : M.Opening) (ds : List (Call M)) → Within (opening p o ∷ ds) cs → Opened M start ds p → M.opens (words M start ds p) o ≡ false

  -- the conditions where coins are printed, with restores
  pub record PrintedConditions (S : M.Session) (H : ℕ → Bool) (cs : List (Call M)) : Type 0 where
    pub honest : (c : Call M) (ds : List (Call M)) → Within (c ∷ ds) cs → Honest (M.settings S) H (place M c)
    pub agree : (p : ℕ) (o : M.Opening) (ds : List (Call M)) → Within (opening p o ∷ ds) cs → M.own o ≡ p → M.opens (words M start ds p) o ≡ true → M.session o ≡ S
    pub once : Once cs
    pub credited : (p m : ℕ) (b : M.Bytes) (ds : List (Call M)) → Within (delivery p m b ∷ ds) cs → Opened M start ds p → M.accepts (words M start ds p) m b ≡ true → Honest (M.settings S) H m → Sent M start ds m b
    pub falls_back : (p : ℕ) (v : M.Words) (r : M.Restore) (ds : List (Call M)) → Within (restore p v r ∷ ds) cs → Opened M start ds p → M.restores v r ≡ true → FallsBack M start ds p v r
    pub not_lost : (p : ℕ) (v : M.Words) (r : M.Restore) (ds : List (Call M)) → Within (restore p v r ∷ ds) cs → Opened M start ds p → M.restores v r ≡ false → v ≡ words M start ds p

  -- the conditions where coins are printed and nobody is restored
  pub record PlainConditions (S : M.Session) (H : ℕ → Bool) (cs : List (Call M)) : Type 0 where
    pub honest : (c : Call M) (ds : List (Call M)) → Within (c ∷ ds) cs → Honest (M.settings S) H (place M c)
    pub agree : (p : ℕ) (o : M.Opening) (ds : List (Call M)) → Within (opening p o ∷ ds) cs → M.own o ≡ p → M.opens (words M start ds p) o ≡ true → M.session o ≡ S
    pub once : Once cs
    pub credited : (p m : ℕ) (b : M.Bytes) (ds : List (Call M)) → Within (delivery p m b ∷ ds) cs → Opened M start ds p → M.accepts (words M start ds p) m b ≡ true → Honest (M.settings S) H m → Answered ds m b

-- restores and recordings may stand in the list
unfoldable pub PrintedMeets : Type 0
PrintedMeets = (start : ℕ → List ℕ) (S : Agreed) (H : ℕ → Bool) (cs : List (Call engine)) → engine.boxed S ≡ false → PrintedConditions engine start S H cs → Conditions engine start S H cs

-- recordings may stand in the list
unfoldable pub PlainMeets : Type 0
PlainMeets = (start : ℕ → List ℕ) (S : Agreed) (H : ℕ → Bool) (cs : List (Call engine)) → engine.boxed S ≡ false → Plain engine cs → PlainConditions engine start S H cs → Conditions engine start S H cs
