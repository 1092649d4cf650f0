-- Which concentrators are opened after a list of calls, and the history of their acts.
use Rattle.std.specs.Prelude.{ℕ, Bool, ◌&&◌, ◌≡◌, Option, Some, None}
use Rattle.std.proofs.Math.Bool.{true, false, cond}
use mathlib.Core.List.{List, [], ◌∷◌}
use Rattle.std.proofs.Common.{inl, inr, ap, ◌∙◌, arith}
use Rattle.std.proofs.Math.Path.{refl, sym}
use Rattle.std.proofs.Math.Dec.{eqb}
use borrow.Author.Tests.{eq-eqb, eqb-true}
use Rattle.agreement.specs.History.{Act, History, by, Did}
use Rattle.agreement.specs.Moments.{Within, now, after}
use Rattle.calls.specs.Machine.{Machine, Call, opening, delivery, turn, report, restore, recording, place, words}
use Rattle.agreement.specs.DemandThree.{Opened}
use Rattle.agreement.proofs.laws.Machine.{Reading}

pub none_some : {A : Type 0} (x : A) → None ≡ Some x → ⊥
none_some x e = let z : ◌≡◌ {A = ℕ} 0 1 = cc in omega arith

module _ (M : Machine) (R : Reading M) where
  -- the opening by which one is opened after a call
  abbrev pub becomes : Call M → M.Words → Option M.Opening → Option M.Opening
  becomes (opening p o) w st = cond (eqb (M.own o) p && M.opens w o) (Some o) st
  becomes (delivery p m b) w st = st
  becomes (turn p l) w st = st
  becomes (report p r) w st = st
  becomes (restore p v r) w st = st
  becomes (recording p x) w st = st

  -- the act of a call: only the turns of an opened one count
  abbrev pub did : Call M → M.Words → Option M.Opening → Option Act
  did (opening p o) w st = None
  did (delivery p m b) w st = None
  did (turn p l) w None = None
  did (turn p l) w (Some o) = R.act w l
  did (report p r) w st = None
  did (restore p v r) w st = None
  did (recording p x) w st = None

  abbrev pub tell : ℕ → Option Act → History → History
  tell p None h = h
  tell p (Some a) h = by p a ∷ h

module _ (M : Machine) (R : Reading M) (start : ℕ → M.Words) where
  -- the opening by which q is opened, if it is
  unfoldable pub status : List (Call M) → ℕ → Option M.Opening
  status [] q = None
  status (c ∷ cs) q = cond (eqb q (place M c)) (becomes M R c (words M start cs q) (status cs q)) (status cs q)

  unfoldable pub history : List (Call M) → History
  history [] = []
  history (c ∷ cs) = tell M R (place M c) (did M R c (words M start cs (place M c)) (status cs (place M c))) (history cs)

  -- ---- opened ones

  pub record Known (cs : List (Call M)) (p : ℕ) : Type 0 where
    pub by_opening : M.Opening
    pub known : status cs p ≡ Some by_opening

  becomes_some : (c : Call M) (cs : List (Call M)) (p : ℕ) → Known cs p → Known (c ∷ cs) p
  unfolding status
  becomes_some c cs p k = at (eqb p (place M c)) refl
    where
      opened_or_not : (b : Bool) (o : M.Opening) (u : M.Opening) → (v : M.Opening) × (cond b (Some o) (Some u) ≡ Some v)
      opened_or_not true o u = (o, refl)
      opened_or_not false o u = (u, refl)

      call : (c : Call M) (w : M.Words) (u : M.Opening) → (v : M.Opening) × (becomes M R c w (Some u) ≡ Some v)
      call (opening q o) w u = opened_or_not (eqb (M.own o) q && M.opens w o) o u
      call (delivery q m b) w u = (u, refl)
      call (turn q l) w u = (u, refl)
      call (report q r) w u = (u, refl)
      call (restore q v r) w u = (u, refl)
      call (recording q x) w u = (u, refl)

      at : (b : Bool) → eqb p (place M c) ≡ b → Known (c ∷ cs) p
      at true e =
          let x = call c (words M start cs p) k.by_opening in
          record { by_opening = x.0; known = rw (e, k.known) x.1 }
      at false e = record { by_opening = k.by_opening; known = rw e k.known }

  pub opened_known : (cs : List (Call M)) (p : ℕ) → Opened M start cs p → Known cs p
  unfolding status
  opened_known cs p x = go x.within
    where
      first : Known (opening p x.given ∷ x.past) p
      first = record { by_opening = x.given; known = rw (eq-eqb p p refl, eq-eqb (M.own x.given) p x.numbered, x.accepted) }

      go : {ds : List (Call M)} → Within (opening p x.given ∷ x.past) ds → Known ds p
      go now = first
      go (after {cs = ds} c w) = becomes_some c ds p (go w)

  -- opened by o
  pub record OpenedBy (cs : List (Call M)) (p : ℕ) (o : M.Opening) : Type 0 where
    pub is_opened_lem : Opened M start cs p
    pub same : is_opened_lem.given ≡ o

  opened_later : (c : Call M) (cs : List (Call M)) (p : ℕ) (o : M.Opening) → OpenedBy cs p o → OpenedBy (c ∷ cs) p o
  opened_later c cs p o x =
      let y = x.is_opened_lem in
      record {
        is_opened_lem = record { given = y.given; past = y.past; within = after c y.within; numbered = y.numbered; accepted = y.accepted };
        same = x.same;
      }

  pub known_opened : (cs : List (Call M)) (p : ℕ) (o : M.Opening) → status cs p ≡ Some o → OpenedBy cs p o
  unfolding status
  known_opened [] p o e = absurd (none_some o e)
  known_opened (c ∷ cs) p o e = at (eqb p (place M c)) refl e (λ x. opened_later c cs p o (known_opened cs p o x))
    where
      opens : (q : ℕ) (u : M.Opening) → p ≡ q → c ≡ opening q u → (a b : Bool) → eqb (M.own u) q ≡ a → M.opens (words M start cs p) u ≡ b → cond (a && b) (Some u) (status cs p) ≡ Some o → (status cs p ≡ Some o → OpenedBy (c ∷ cs) p o) → OpenedBy (c ∷ cs) p o
      opens q u s t true true x y f rest =
          let here : c ≡ opening p u = rw s t in
          let z : u ≡ o = cc in
          rw here
          (record {
            is_opened_lem = record { given = u; past = cs; within = now; numbered = eqb-true (M.own u) q x ∙ sym s; accepted = y };
            same = z;
          })
      opens q u s t true false x y f rest = rest f
      opens q u s t false b x y f rest = rest f

      call : (d : Call M) → c ≡ d → p ≡ place M d → becomes M R d (words M start cs p) (status cs p) ≡ Some o → (status cs p ≡ Some o → OpenedBy (c ∷ cs) p o) → OpenedBy (c ∷ cs) p o
      call (opening q u) t s f rest = opens q u s t (eqb (M.own u) q) (M.opens (words M start cs p) u) refl refl f rest
      call (delivery q m b) t s f rest = rest f
      call (turn q l) t s f rest = rest f
      call (report q r) t s f rest = rest f
      call (restore q v r) t s f rest = rest f
      call (recording q x) t s f rest = rest f

      at : (b : Bool) → eqb p (place M c) ≡ b → cond b (becomes M R c (words M start cs p) (status cs p)) (status cs p) ≡ Some o → (status cs p ≡ Some o → OpenedBy (c ∷ cs) p o) → OpenedBy (c ∷ cs) p o
      at true x f rest = call c refl (eqb-true p (place M c) x) f rest
      at false x f rest = rest f

  -- an act is that of a turn at an opened one
  pub record TurnDid (w : M.Words) (st : Option M.Opening) (a : Act) : Type 0 where
    pub lent : M.Lent
    pub by_opening : M.Opening
    pub known : st ≡ Some by_opening
    pub acts : R.act w lent ≡ Some a

  pub did_turn : (c : Call M) (w : M.Words) (st : Option M.Opening) (a : Act) → did M R c w st ≡ Some a → TurnDid w st a
  did_turn (opening p o) w st a e = absurd (none_some a e)
  did_turn (delivery p m b) w st a e = absurd (none_some a e)
  did_turn (turn p l) w None a e = absurd (none_some a e)
  did_turn (turn p l) w (Some o) a e = record { lent = l; by_opening = o; known = refl; acts = e }
  did_turn (report p r) w st a e = absurd (none_some a e)
  did_turn (restore p v r) w st a e = absurd (none_some a e)
  did_turn (recording p x) w st a e = absurd (none_some a e)

  -- the turn that did a
  pub record ActedAt (cs : List (Call M)) (p : ℕ) (a : Act) : Type 0 where
    pub call : Call M
    pub past : List (Call M)
    pub within : Within (call ∷ past) cs
    pub here : place M call ≡ p
    pub turn : TurnDid (words M start past p) (status past p) a

  pub acted_at : (cs : List (Call M)) (p : ℕ) (a : Act) → Did (history cs) p a → ActedAt cs p a
  unfolding history
  acted_at [] p a d = absurd d
  acted_at (c ∷ cs) p a d = at (did M R c (words M start cs (place M c)) (status cs (place M c))) refl d (λ e. later (acted_at cs p a e))
    where
      later : ActedAt cs p a → ActedAt (c ∷ cs) p a
      later x = record { call = x.call; past = x.past; within = after c x.within; here = x.here; turn = x.turn }

      at : (x : Option Act) → did M R c (words M start cs (place M c)) (status cs (place M c)) ≡ x → Did (tell M R (place M c) x (history cs)) p a → (Did (history cs) p a → ActedAt (c ∷ cs) p a) → ActedAt (c ∷ cs) p a
      at None e d rest = rest d
      at (Some b) e (inl z) rest =
          let same : b ≡ a = cc in
          let here : place M c ≡ p = cc in
          record { call = c; past = cs; within = now; here = here; turn = rw here at (did_turn c (words M start cs (place M c)) (status cs (place M c)) a (e ∙ ap Some same)) }
      at (Some b) e (inr d) rest = rest d
