-- Agreement as claims about a whole list of calls at the honest concentrators, restores and recordings among them (PROTOCOL 16.3 to 16.10). The
-- claims are made of any machine, and of the engine.
use Rattle.std.specs.Prelude.{ℕ, ◌≤◌, Bool, true, false, List, [], ◌∷◌, ◌⊎◌, ◌≢◌, ◌≡◌, length, take}
use Rattle.calls.specs.Machine.{Machine, Call, opening, delivery, turn, restore, recording, place, words}
use Rattle.calls.specs.Engine.{engine}
use Rattle.agreement.specs.Honest.{liars, Honest}
use Rattle.agreement.specs.Moments.{Within, Before}
use Rattle.agreement.specs.Journals.{bytes, complete, journal, Stands}

-- a set is named or in force
abbrev pub Shows : (M : Machine) → M.Words → List ℕ → Type 0
Shows M w X = M.Names w X ⊎ M.InForce w X

-- of the calls on the buffers `start`
module _ (M : Machine) (start : ℕ → M.Words) where
  -- opened: it accepted an opening with its own number (PROTOCOL 16.5)
  pub record Opened (cs : List (Call M)) (p : ℕ) : Type 0 where
    pub given : M.Opening
    pub past : List (Call M)
    pub within : Within (opening p given ∷ past) cs
    pub numbered : M.own given ≡ p
    pub accepted : M.opens (words M start past p) given ≡ true

  -- what a turn of m, once opened, had sent before, and the turn's line stands in its journal (PROTOCOL 16.6): a message whose line was lost must
  -- be sent again before it leaves
  pub record Sent (cs : List (Call M)) (m : ℕ) (b : M.Bytes) : Type 0 where
    pub lent : M.Lent
    pub past : List (Call M)
    pub stands : Stands M (turn m lent ∷ past) (journal M start cs m)
    pub opened : Opened past m
    pub sends : M.Sends (words M start past m) lent b

  -- a message has left once it was delivered, also to its own sender: an opened honest one accepted it from the link of m. Of what liars got
  -- nothing is asked (PROTOCOL 11.15).
  pub record Departed (cs : List (Call M)) (m : ℕ) (b : M.Bytes) : Type 0 where
    pub who : ℕ
    pub past : List (Call M)
    pub within : Within (delivery who m b ∷ past) cs
    pub opened : Opened past who
    pub accepted : M.accepts (words M start past who) m b ≡ true

  -- who is restored like this stays honest (PROTOCOL 16.7)
  pub record FallsBack (cs : List (Call M)) (p : ℕ) (v : M.Words) (r : M.Restore) : Type 0 where
    -- the bytes read are a front part of its own journal, cut anywhere ..
    pub cut : M.text r ≡ take (length (M.text r)) (bytes M (journal M start cs p))
    -- .. behind the first line,
    pub first : complete M (length (M.text r)) (journal M start cs p) ≢ []
    -- and of every message that left the line is among those that it keeps
    pub kept : (b : M.Bytes) → Departed cs p b → Sent (restore p v r ∷ cs) p b

  -- p, opened, accepted the recording x. What was recorded in lines that were lost counts, since what was named there does; what was recorded
  -- before the opening does not.
  pub record Recorded (cs : List (Call M)) (p : ℕ) (x : M.Recording) : Type 0 where
    pub past : List (Call M)
    pub within : Within (recording p x ∷ past) cs
    pub opened : Opened past p
    pub accepted : M.records (words M start past p) x ≡ true

  -- the conditions on a list of calls, beside what the liars weigh (PROTOCOL 16.4 to 16.7)
  pub record Conditions (S : M.Session) (H : ℕ → Bool) (cs : List (Call M)) : Type 0 where
    -- all calls of the list are at honest ones, chosen freely among 1 to n; the others are liars (PROTOCOL 16.4)
    pub honest : (c : Call M) (ds : List (Call M)) → Within (c ∷ ds) cs → Honest (M.settings S) H (place M c)
    -- the openings agree in all that a session shares (PROTOCOL 16.5)
    pub agree : (p : ℕ) (o : M.Opening) (ds : List (Call M)) → Within (opening p o ∷ ds) cs → M.own o ≡ p → M.opens (words M start ds p) o ≡ true → M.session o ≡ S
    -- no opening is accepted at an opened one, under whatever number (PROTOCOL 16.5)
    pub once : (p : ℕ) (o : M.Opening) (ds : List (Call M)) → Within (opening p o ∷ ds) cs → Opened ds p → M.opens (words M start ds p) o ≡ false
    -- what an opened honest one accepts over an honest one's link was sent there before, byte for byte (PROTOCOL 16.6)
    pub credited : (p m : ℕ) (b : M.Bytes) (ds : List (Call M)) → Within (delivery p m b ∷ ds) cs → Opened ds p → M.accepts (words M start ds p) m b ≡ true → Honest (M.settings S) H m → Sent ds m b
    -- any other restored one is a liar (PROTOCOL 16.7): an opened honest one, restored onto whatever its buffer holds, falls back ..
    pub falls_back : (p : ℕ) (v : M.Words) (r : M.Restore) (ds : List (Call M)) → Within (restore p v r ∷ ds) cs → Opened ds p → M.restores v r ≡ true → FallsBack ds p v r
    -- .. or, where the restore is refused and so leaves the buffer, it had lost nothing. One that lost its words has no state until a restore is
    -- accepted, and what is refused on the way changes nothing: it is not listed.
    pub not_lost : (p : ℕ) (v : M.Words) (r : M.Restore) (ds : List (Call M)) → Within (restore p v r ∷ ds) cs → Opened ds p → M.restores v r ≡ false → v ≡ words M start ds p
    -- in a boxed session honest ones record equal bits for one vote and round (PROTOCOL 16.7)
    pub coins : M.boxed S ≡ true → (p q : ℕ) (x y : M.Recording) → Recorded cs p x → Recorded cs q y → M.vote x ≡ M.vote y → M.round x ≡ M.round y → M.bit x ≡ M.bit y

  -- what one put in is the input of its opening (PROTOCOL 16.10)
  abbrev pub PutIn : ℕ → List (Call M) → Type 0
  PutIn v cs = (p : ℕ) (o : M.Opening) (ds : List (Call M)) → Within (opening p o ∷ ds) cs → M.own o ≡ p → M.opens (words M start ds p) o ≡ true → M.input o ≡ v

  -- X was named strictly before, at an opened honest one
  pub record Earlier (S : M.Session) (H : ℕ → Bool) (cs : List (Call M)) (X : List ℕ) : Type 0 where
    pub past : List (Call M)
    pub before : Before past cs
    pub who : ℕ
    pub honest : Honest (M.settings S) H who
    pub opened : Opened past who
    pub names : M.Names (words M start past who) X

-- ---- the claims

-- with liars of weight up to ta, any two sets named or in force, at any honest ones and after any calls of the list, are equal (PROTOCOL 16.8)
unfoldable pub OneSet : Machine → Type 0
OneSet M =
    (S : M.Session) (H : ℕ → Bool) → liars (M.settings S) H ≤ (M.settings S).ta →
    (start : ℕ → M.Words) (cs : List (Call M)) → Conditions M start S H cs →
    (ds es : List (Call M)) → Within ds cs → Within es cs →
    (p q : ℕ) → Opened M start ds p → Opened M start es q →
    (X Y : List ℕ) → Shows M (words M start ds p) X → Shows M (words M start es q) Y → X ≡ Y

-- with liars of weight up to ts, a set in force was named earlier by an honest one's exits (PROTOCOL 16.9)
unfoldable pub NamedFirst : Machine → Type 0
NamedFirst M =
    (S : M.Session) (H : ℕ → Bool) → liars (M.settings S) H ≤ (M.settings S).ts →
    (start : ℕ → M.Words) (cs : List (Call M)) → Conditions M start S H cs →
    (ds : List (Call M)) → Within ds cs →
    (p : ℕ) → Opened M start ds p →
    (X : List ℕ) → M.InForce (words M start ds p) X → Earlier M start S H ds X

-- with liars of weight up to ts and one pack put in by all who are opened, only the set of that pack is in force or named (PROTOCOL 16.10)
unfoldable pub OnlyInput : Machine → Type 0
OnlyInput M =
    (S : M.Session) (H : ℕ → Bool) → liars (M.settings S) H ≤ (M.settings S).ts →
    (start : ℕ → M.Words) (cs : List (Call M)) → Conditions M start S H cs →
    (v : ℕ) → PutIn M start v cs →
    (ds : List (Call M)) → Within ds cs →
    (p : ℕ) → Opened M start ds p →
    (X : List ℕ) → Shows M (words M start ds p) X → X ≡ v ∷ []

-- agreement, all of it
pub record DemandThree (M : Machine) : Type 0 where
  pub one_set : OneSet M
  pub named_first : NamedFirst M
  pub only_input : OnlyInput M

-- agreement of the engine
abbrev pub EngineAgrees : Type 0
EngineAgrees = DemandThree engine
